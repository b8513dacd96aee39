-- The three pictures of a panel, byte for byte (this project's own).
use Rattle.std.specs.Prelude.{List, ◌++◌, ℕ}
use Rattle.jh_ops.specs.declared.operation.Kind.{Kind}
use Rattle.jh_plots.specs.declared.plot.Panel.{Panel}
use Rattle.jh_plots.specs.declared.plot.Plot.{Plot}
use Rattle.jh_plot_pages.specs.Axes.{axis_text, shades_text}
use Rattle.jh_plot_pages.specs.Lines.{quantile_text, rate_line_text}
use Rattle.jh_plot_pages.specs.Points.{points_text}
use Rattle.jh_plot_pages.specs.declared.axes.Axis.{Axis}
use Rattle.jh_plot_pages.specs.declared.lines.Quantile.{Quantile}
use Rattle.jh_plot_pages.specs.declared.picture.TheConstants.{END, LATENCIES, PERCENTILES, PICTURE, RATES}

-- what all pictures of a plot have behind their data: the times of faults, and the axis of time
abbrev pub back_text : Plot → List ℕ
back_text plot = PICTURE.now ++ shades_text plot.shades.items ++ axis_text plot.times.items Axis.Times

-- the same with an axis of latencies, or of rates
abbrev pub latency_back_text : Plot → List ℕ
latency_back_text plot = back_text plot ++ axis_text plot.latencies.items Axis.Latencies

abbrev pub rate_back_text : Plot → List ℕ
rate_back_text plot = back_text plot ++ axis_text plot.rates.items Axis.Rates

-- the latencies of calls: a point for each, those that happened lowest
abbrev pub latencies_text : Plot → Panel → List ℕ
latencies_text plot panel =
    latency_back_text plot ++ LATENCIES.now ++ points_text panel.points.items Kind.Ok
    ++ points_text panel.points.items Kind.Fail ++ points_text panel.points.items Kind.Info
    ++ END.now

-- percentiles of these
abbrev pub percentiles_text : Plot → Panel → List ℕ
percentiles_text plot panel =
    latency_back_text plot ++ PERCENTILES.now
    ++ quantile_text panel.percentiles.items Quantile.P50
    ++ quantile_text panel.percentiles.items Quantile.P95
    ++ quantile_text panel.percentiles.items Quantile.P99
    ++ quantile_text panel.percentiles.items Quantile.Greatest ++ END.now

-- how many calls a second ended, by how they ended
abbrev pub rates_text : Plot → Panel → List ℕ
rates_text plot panel =
    rate_back_text plot ++ RATES.now ++ rate_line_text panel.rates.items Kind.Ok
    ++ rate_line_text panel.rates.items Kind.Fail ++ rate_line_text panel.rates.items Kind.Info
    ++ END.now
