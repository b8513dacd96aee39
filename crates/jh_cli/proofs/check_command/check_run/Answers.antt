use Rattle.std.specs.Prelude.{IfSome, Some}
use Rattle.std.proofs.lemmas.Result.{err_from_is_err_and}
use Rattle.jh_ops.specs.Operation.{operations}
use Rattle.jh_cli.specs.CheckRefusals.{RefusesCheck}
use Rattle.jh_cli.specs.CheckText.{IsCheckTextOf}
use Rattle.jh_cli.proofs.CheckLemmas.{judging_not_of_options, judging_refused, not_of_reading, options_refused, reading_refused, tells_end, tells_other, tells_refusal}
use Rattle.jh_cli.proofs.WritingLemmas.{on_any_input, on_input, output_refused, output_written}
use Rattle.jh_cli.proofs.check_command.check_run.Goals as goal

-- the options are refused
pub returns-in_err-refuse_options-clause-refused : goal.returns-in_err-refuse_options-clause-refused
returns-in_err-refuse_options-clause-refused g c =
    let p = err_from_is_err_and c.from_residual.result c.from_residual.ensures.1 in
    rw (p.1, p.2) (on_any_input _ (g.R.Read.remaining c.args.reader.now) (λ input. options_refused c.args.question input c.in_err-refuse_options.field-0.0 c.in_err-refuse_options.ensures.refused))

pub returns-in_err-refuse_options-clause-options : goal.returns-in_err-refuse_options-clause-options
returns-in_err-refuse_options-clause-options g c =
    let p = err_from_is_err_and c.from_residual.result c.from_residual.ensures.1 in
    rw (p.1, p.2) (tells_refusal (Some c.args.question.judging) c.in_err-refuse_options.field-0.0 c.in_err-refuse_options.ensures.refused)

-- they are taken, and it ends otherwise
pub returns-in_err-parts-clause-options : goal.returns-in_err-parts-clause-options
returns-in_err-parts-clause-options g c =
    let p = err_from_is_err_and c.from_residual-in_err-parts.result c.from_residual-in_err-parts.ensures.1 in
    rw (p.1, p.2) (tells_other (Some c.args.question.judging) _ (not_of_reading c.in_err-parts.field-0.0) c.in_ok-refuse_options.ensures.taken)

pub returns-in_err-output-clause-options : goal.returns-in_err-output-clause-options
returns-in_err-output-clause-options g c =
    let p = err_from_is_err_and c.from_residual-in_err-output.result c.from_residual-in_err-output.ensures.1 in
    let refused = rw c.deref-2.ensures.value at c.in_err-output.ensures in
    rw (p.1, p.2) (tells_other (Some c.args.question.judging) _ (judging_not_of_options c.args.question (operations c.in_ok-parts.parts.history.items) c.in_err-output.field-0.0 refused) c.in_ok-refuse_options.ensures.taken)

pub returns-clause-options : goal.returns-clause-options
returns-clause-options g c = tells_end (Some c.args.question.judging) c.finish.result c.finish.ensures.failed c.in_ok-refuse_options.ensures.taken

pub returns-in_err-parts-clause-refused : goal.returns-in_err-parts-clause-refused
returns-in_err-parts-clause-refused g c =
    let p = err_from_is_err_and c.from_residual-in_err-parts.result c.from_residual-in_err-parts.ensures.1 in
    rw (p.1, p.2) (on_input _ _ (g.R.Read.remaining c.args.reader.now) (λ input refused.
    reading_refused c.args.question input c.in_err-parts.field-0.0 refused
    ) c.in_err-parts.ensures.refused)

pub returns-in_err-output-clause-refused : goal.returns-in_err-output-clause-refused
returns-in_err-output-clause-refused g c =
    let p = err_from_is_err_and c.from_residual-in_err-output.result c.from_residual-in_err-output.ensures.1 in
    let refused = rw c.deref-2.ensures.value at c.in_err-output.ensures in
    rw (p.1, p.2) (on_input _ _ (g.R.Read.remaining c.args.reader.now) (λ input parts.
    judging_refused c.args.question input (operations c.in_ok-parts.parts.history.items) c.in_ok-parts.parts.below.items c.in_err-output.field-0.0 parts refused
    ) c.in_ok-parts.ensures.parsed)

pub returns-clause-written : goal.returns-clause-written
returns-clause-written g c =
    let known = g.R.Read.remaining c.args.reader.now in
    let goes : IfSome known (λ input. IsCheckTextOf c.args.question input c.in_ok-output.output.status c.in_ok-output.output.text.items) =
    on_input _ _ known (λ input parts. (operations c.in_ok-parts.parts.history.items, c.in_ok-parts.parts.below.items, parts, rw c.deref-2.ensures.value at c.in_ok-output.ensures)) c.in_ok-parts.ensures.parsed in
    output_written (IsCheckTextOf c.args.question) known (g.W.Write.contents c.args.writer.now) (g.W.Write.contents c.finish.new.writer) c.finish.result c.in_ok-output.output.status c.in_ok-output.output.text.items
    goes c.finish.ensures.status c.finish.ensures.written

pub returns-clause-refused : goal.returns-clause-refused
returns-clause-refused g c =
    let known = g.R.Read.remaining c.args.reader.now in
    let goes : IfSome known (λ input. IsCheckTextOf c.args.question input c.in_ok-output.output.status c.in_ok-output.output.text.items) =
    on_input _ _ known (λ input parts. (operations c.in_ok-parts.parts.history.items, c.in_ok-parts.parts.below.items, parts, rw c.deref-2.ensures.value at c.in_ok-output.ensures)) c.in_ok-parts.ensures.parsed in
    output_refused (IsCheckTextOf c.args.question) (RefusesCheck c.args.question) known c.finish.result c.in_ok-output.output.status c.in_ok-output.output.text.items
    (λ input is. (c.in_ok-output.output.status, c.in_ok-output.output.text.items, is)) goes c.finish.ensures.failed
