use Rattle.std.proofs.Common.{ℕ, List, subst}
use Rattle.std.specs.Prelude.{IfSome}
use Rattle.jh_cli.specs.ShrinkRefusals.{RefusesShrinking}
use Rattle.jh_cli.specs.ShrinkText.{IsShrinkTextOf}
use Rattle.jh_cli.proofs.WritingLemmas.{on_input, output_refused, output_written}
use Rattle.jh_cli.proofs.shrink_command.shrink_run.Goals as goal

pub returns-clause-written : goal.returns-clause-written
returns-clause-written g c =
    let known = g.R.Read.remaining c.args.reader.now in
    let goes : IfSome known (λ input. IsShrinkTextOf c.args.runs input c.in_ok-output.output.status c.in_ok-output.output.text.items) =
    on_input _ _ known (λ input spelled. subst (λ (bytes : List ℕ). IsShrinkTextOf c.args.runs bytes c.in_ok-output.output.status c.in_ok-output.output.text.items) spelled (rw c.deref.ensures.value at c.in_ok-output.ensures)) c.in_ok-input.ensures.bytes in
    output_written (IsShrinkTextOf c.args.runs) known (g.W.Write.contents c.args.writer.now) (g.W.Write.contents c.finish.new.writer) c.finish.result c.in_ok-output.output.status c.in_ok-output.output.text.items
    goes c.finish.ensures.status c.finish.ensures.written

pub returns-clause-refused : goal.returns-clause-refused
returns-clause-refused g c =
    let known = g.R.Read.remaining c.args.reader.now in
    let goes : IfSome known (λ input. IsShrinkTextOf c.args.runs input c.in_ok-output.output.status c.in_ok-output.output.text.items) =
    on_input _ _ known (λ input spelled. subst (λ (bytes : List ℕ). IsShrinkTextOf c.args.runs bytes c.in_ok-output.output.status c.in_ok-output.output.text.items) spelled (rw c.deref.ensures.value at c.in_ok-output.ensures)) c.in_ok-input.ensures.bytes in
    output_refused (IsShrinkTextOf c.args.runs) (RefusesShrinking c.args.runs) known c.finish.result c.in_ok-output.output.status c.in_ok-output.output.text.items
    (λ input is. (c.in_ok-output.output.status, c.in_ok-output.output.text.items, is)) goes c.finish.ensures.failed
