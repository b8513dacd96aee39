use Rattle.std.proofs.Common.{ℕ, List, subst}
use Rattle.std.specs.Prelude.{IfSome}
use Rattle.std.proofs.lemmas.Result.{err_from_is_err_and}
use Rattle.jh_cli.specs.RunRefusals.{RefusesRun, RefusesRunBytes}
use Rattle.jh_cli.specs.RunText.{IsRunTextOf}
use Rattle.jh_cli.proofs.RunLemmas.{bytes_refused}
use Rattle.jh_cli.proofs.WritingLemmas.{on_input, output_refused, output_written}
use Rattle.jh_cli.proofs.run_command.run_run.Goals as goal

pub returns-in_err-output-clause-refused : goal.returns-in_err-output-clause-refused
returns-in_err-output-clause-refused g c =
    let p = err_from_is_err_and c.from_residual-in_err-output.result c.from_residual-in_err-output.ensures.1 in
    let error = c.in_err-output.field-0.0 in
    rw (p.1, p.2) (on_input _ _ (g.R.Read.remaining c.args.reader.now) (λ input spelled.
    bytes_refused input error (subst (λ (bytes : List ℕ). RefusesRunBytes bytes error) spelled (rw c.deref.ensures.value at c.in_err-output.ensures)))
    c.in_ok-input.ensures.bytes)

pub returns-clause-written : goal.returns-clause-written
returns-clause-written g c =
    let known = g.R.Read.remaining c.args.reader.now in
    let goes : IfSome known (λ input. IsRunTextOf input c.in_ok-output.output.status c.in_ok-output.output.text.items) =
    on_input _ _ known (λ input spelled. subst (λ (bytes : List ℕ). IsRunTextOf bytes c.in_ok-output.output.status c.in_ok-output.output.text.items) spelled (rw c.deref.ensures.value at c.in_ok-output.ensures)) c.in_ok-input.ensures.bytes in
    output_written IsRunTextOf known (g.W.Write.contents c.args.writer.now) (g.W.Write.contents c.finish.new.writer) c.finish.result c.in_ok-output.output.status c.in_ok-output.output.text.items
    goes c.finish.ensures.status c.finish.ensures.written

pub returns-clause-refused : goal.returns-clause-refused
returns-clause-refused g c =
    let known = g.R.Read.remaining c.args.reader.now in
    let goes : IfSome known (λ input. IsRunTextOf input c.in_ok-output.output.status c.in_ok-output.output.text.items) =
    on_input _ _ known (λ input spelled. subst (λ (bytes : List ℕ). IsRunTextOf bytes c.in_ok-output.output.status c.in_ok-output.output.text.items) spelled (rw c.deref.ensures.value at c.in_ok-output.ensures)) c.in_ok-input.ensures.bytes in
    output_refused IsRunTextOf RefusesRun known c.finish.result c.in_ok-output.output.status c.in_ok-output.output.text.items
    (λ input is. (c.in_ok-output.output.status, c.in_ok-output.output.text.items, is)) goes c.finish.ensures.failed
