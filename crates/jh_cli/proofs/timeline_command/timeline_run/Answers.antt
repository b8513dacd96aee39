use Rattle.std.specs.Prelude.{IfSome}
use Rattle.std.proofs.lemmas.Result.{err_from_is_err_and}
use Rattle.jh_edn.specs.View.{views}
use Rattle.jh_ops.specs.Operation.{operations}
use Rattle.jh_cli.specs.TimelineRefusals.{RefusesTimeline}
use Rattle.jh_cli.specs.TimelineText.{IsTimelineTextOf}
use Rattle.jh_cli.proofs.TimelineLemmas.{options_refused, page_not_of_options, parts_refused}
use Rattle.jh_cli.proofs.CheckLemmas.{not_of_reading, tells_end, tells_other, tells_refusal}
use Rattle.jh_cli.proofs.WritingLemmas.{on_any_input, on_input, output_refused, output_written}
use Rattle.jh_cli.proofs.timeline_command.timeline_run.Goals as goal

-- the options are refused
pub returns-in_err-refuse_options-clause-refused : goal.returns-in_err-refuse_options-clause-refused
returns-in_err-refuse_options-clause-refused g c =
    let p = err_from_is_err_and c.from_residual.result c.from_residual.ensures.1 in
    rw (p.1, p.2) (on_any_input _ (g.R.Read.remaining c.args.reader.now) (λ input. options_refused c.args.question (views c.args.steps.now) input c.in_err-refuse_options.field-0.0 c.in_err-refuse_options.ensures.refused))

pub returns-in_err-refuse_options-clause-options : goal.returns-in_err-refuse_options-clause-options
returns-in_err-refuse_options-clause-options g c =
    let p = err_from_is_err_and c.from_residual.result c.from_residual.ensures.1 in
    rw (p.1, p.2) (tells_refusal c.args.question.judging c.in_err-refuse_options.field-0.0 c.in_err-refuse_options.ensures.refused)

-- they are taken, and it ends otherwise
pub returns-in_err-parts-clause-options : goal.returns-in_err-parts-clause-options
returns-in_err-parts-clause-options g c =
    let p = err_from_is_err_and c.from_residual-in_err-parts.result c.from_residual-in_err-parts.ensures.1 in
    rw (p.1, p.2) (tells_other c.args.question.judging _ (not_of_reading c.in_err-parts.field-0.0) c.in_ok-refuse_options.ensures.taken)

pub returns-in_err-output-clause-options : goal.returns-in_err-output-clause-options
returns-in_err-output-clause-options g c =
    let p = err_from_is_err_and c.from_residual-in_err-output.result c.from_residual-in_err-output.ensures.1 in
    rw (p.1, p.2) (tells_other c.args.question.judging _ (page_not_of_options c.args.question (operations c.in_ok-parts.parts.history.items) c.in_err-output.field-0.0 c.in_err-output.ensures) c.in_ok-refuse_options.ensures.taken)

pub returns-clause-options : goal.returns-clause-options
returns-clause-options g c = tells_end c.args.question.judging c.finish.result c.finish.ensures.failed c.in_ok-refuse_options.ensures.taken

pub returns-in_err-parts-clause-refused : goal.returns-in_err-parts-clause-refused
returns-in_err-parts-clause-refused g c =
    let p = err_from_is_err_and c.from_residual-in_err-parts.result c.from_residual-in_err-parts.ensures.1 in
    rw (p.1, p.2) (on_input _ _ (g.R.Read.remaining c.args.reader.now) (λ input refused.
    parts_refused c.args.question (views c.args.steps.now) input c.in_err-parts.field-0.0 refused
    ) c.in_err-parts.ensures.refused)

pub returns-clause-written : goal.returns-clause-written
returns-clause-written g c =
    let known = g.R.Read.remaining c.args.reader.now in
    let goes : IfSome known (λ input. IsTimelineTextOf c.args.question (views c.args.steps.now) input c.in_ok-output.output.status c.in_ok-output.output.text.items) =
    on_input _ _ known (λ input is_parsed. (operations c.in_ok-parts.parts.history.items, c.in_ok-parts.parts.below.items, is_parsed, c.in_ok-output.ensures)) c.in_ok-parts.ensures.parsed in
    output_written (IsTimelineTextOf c.args.question (views c.args.steps.now)) known (g.W.Write.contents c.args.writer.now) (g.W.Write.contents c.finish.new.writer) c.finish.result c.in_ok-output.output.status c.in_ok-output.output.text.items
    goes c.finish.ensures.status c.finish.ensures.written

pub returns-clause-refused : goal.returns-clause-refused
returns-clause-refused g c =
    let known = g.R.Read.remaining c.args.reader.now in
    let goes : IfSome known (λ input. IsTimelineTextOf c.args.question (views c.args.steps.now) input c.in_ok-output.output.status c.in_ok-output.output.text.items) =
    on_input _ _ known (λ input is_parsed. (operations c.in_ok-parts.parts.history.items, c.in_ok-parts.parts.below.items, is_parsed, c.in_ok-output.ensures)) c.in_ok-parts.ensures.parsed in
    output_refused (IsTimelineTextOf c.args.question (views c.args.steps.now)) (RefusesTimeline c.args.question (views c.args.steps.now)) known c.finish.result c.in_ok-output.output.status c.in_ok-output.output.text.items
    (λ input is. (c.in_ok-output.output.status, c.in_ok-output.output.text.items, is)) goes c.finish.ensures.failed
