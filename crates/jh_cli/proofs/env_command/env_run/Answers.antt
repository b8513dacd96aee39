use Rattle.std.proofs.Common.{refl}
use Rattle.std.specs.Prelude.{IfSome}
use Rattle.jh_edn.specs.View.{views}
use Rattle.jh_cli.specs.EnvRefusals.{RefusesEnv}
use Rattle.jh_cli.specs.EnvText.{IsEnvTextOf}
use Rattle.jh_cli.proofs.WritingLemmas.{both_on_input, on_input, output_refused, output_written}
use Rattle.jh_cli.proofs.env_command.env_run.Goals as goal

pub returns-clause-written : goal.returns-clause-written
returns-clause-written g c =
    let known = g.R.Read.remaining c.args.reader.now in
    let text = c.in_ok-text.text.items in
    let goes : IfSome known (λ input. IsEnvTextOf input 0 text) =
    on_input _ _ known (λ input spelled. (views c.in_ok-values.values.items, spelled, rw c.as_slice.ensures.value at c.in_ok-text.ensures, refl)) (both_on_input _ _ known c.in_ok-values.ensures.utf8 c.in_ok-values.ensures.values) in
    output_written IsEnvTextOf known (g.W.Write.contents c.args.writer.now) (g.W.Write.contents c.finish.new.writer) c.finish.result 0 text
    goes c.finish.ensures.status c.finish.ensures.written

pub returns-clause-refused : goal.returns-clause-refused
returns-clause-refused g c =
    let known = g.R.Read.remaining c.args.reader.now in
    let text = c.in_ok-text.text.items in
    let goes : IfSome known (λ input. IsEnvTextOf input 0 text) =
    on_input _ _ known (λ input spelled. (views c.in_ok-values.values.items, spelled, rw c.as_slice.ensures.value at c.in_ok-text.ensures, refl)) (both_on_input _ _ known c.in_ok-values.ensures.utf8 c.in_ok-values.ensures.values) in
    output_refused IsEnvTextOf RefusesEnv known c.finish.result 0 text (λ input is. (0, text, is)) goes c.finish.ensures.failed
