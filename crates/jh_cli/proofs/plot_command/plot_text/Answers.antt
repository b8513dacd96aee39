use Rattle.std.proofs.Common.{List, subst}
use Rattle.jh_bands.specs.declared.band.Band.{Band}
use Rattle.jh_ops.specs.Operation.{operations}
use Rattle.jh_plots.specs.Plots.{IsPlotOf}
use Rattle.jh_cli.proofs.plot_command.plot_text.Goals as goal

pub returns : goal.returns
returns c =
    let history = operations c.args.history.now in
    let plot = c.in_ok-plot.plot in
    record {
      bands = c.in_ok-bands.bands.items;
      of_history = c.in_ok-bands.ensures.bands;
      plot = plot;
      plotted = subst (λ (bands : List Band). IsPlotOf history bands plot) c.deref.ensures.value c.in_ok-plot.ensures.2;
      page = c.in_ok-page_of_plot.ensures;
    }
