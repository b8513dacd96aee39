use Rattle.std.specs.Prelude.{IfSome}
use Rattle.std.proofs.Common.{refl}
use Rattle.std.proofs.lemmas.Result.{err_from_is_err_and}
use Rattle.jh_ops.specs.Operation.{operations}
use Rattle.jh_cli.specs.PlotRefusals.{RefusesPlot}
use Rattle.jh_cli.specs.PlotText.{IsPlotTextOf}
use Rattle.jh_cli.proofs.PlotLemmas.{plotted_from, plotting_refused}
use Rattle.jh_cli.proofs.WritingLemmas.{on_input, output_refused, output_written}
use Rattle.jh_cli.proofs.plot_command.plot_run.Goals as goal

pub returns-in_err-parts-clause-refused : goal.returns-in_err-parts-clause-refused
returns-in_err-parts-clause-refused g c =
    let p = err_from_is_err_and c.from_residual.result c.from_residual.ensures.1 in
    rw (p.1, p.2) (on_input _ _ (g.R.Read.remaining c.args.reader.now) (λ input refused.
    plotted_from c.args.skips_unread input c.in_err-parts.field-0.0 refused
    ) c.in_err-parts.ensures.refused)

pub returns-in_err-text-clause-refused : goal.returns-in_err-text-clause-refused
returns-in_err-text-clause-refused g c =
    let p = err_from_is_err_and c.from_residual-in_err-text.result c.from_residual-in_err-text.ensures.1 in
    let refused = rw c.deref.ensures.value at c.in_err-text.ensures in
    rw (p.1, p.2) (on_input _ _ (g.R.Read.remaining c.args.reader.now) (λ input parts.
    plotting_refused c.args.skips_unread input (operations c.in_ok-parts.parts.history.items) c.in_ok-parts.parts.below.items c.in_err-text.field-0.0 parts refused
    ) c.in_ok-parts.ensures.parsed)

pub returns-clause-written : goal.returns-clause-written
returns-clause-written g c =
    let known = g.R.Read.remaining c.args.reader.now in
    let goes : IfSome known (λ input. IsPlotTextOf c.args.skips_unread input 0 c.in_ok-text.text.items) =
    on_input _ _ known (λ input parts. (operations c.in_ok-parts.parts.history.items, c.in_ok-parts.parts.below.items, parts, rw c.deref.ensures.value at c.in_ok-text.ensures, refl)) c.in_ok-parts.ensures.parsed in
    output_written (IsPlotTextOf c.args.skips_unread) known (g.W.Write.contents c.args.writer.now) (g.W.Write.contents c.finish.new.writer) c.finish.result 0 c.in_ok-text.text.items
    goes c.finish.ensures.status c.finish.ensures.written

pub returns-clause-refused : goal.returns-clause-refused
returns-clause-refused g c =
    let known = g.R.Read.remaining c.args.reader.now in
    let goes : IfSome known (λ input. IsPlotTextOf c.args.skips_unread input 0 c.in_ok-text.text.items) =
    on_input _ _ known (λ input parts. (operations c.in_ok-parts.parts.history.items, c.in_ok-parts.parts.below.items, parts, rw c.deref.ensures.value at c.in_ok-text.ensures, refl)) c.in_ok-parts.ensures.parsed in
    output_refused (IsPlotTextOf c.args.skips_unread) (RefusesPlot c.args.skips_unread) known c.finish.result 0 c.in_ok-text.text.items
    (λ input is. (0, c.in_ok-text.text.items, is)) goes c.finish.ensures.failed
