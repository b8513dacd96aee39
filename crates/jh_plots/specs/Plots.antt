-- The plot of a history, and why it has none (this project's own; latencies, their quantiles and rates
-- over time are what Jepsen's checker/perf draws).
use Rattle.std.specs.Prelude.{◌≡◌, ℕ, List, map, length}
use Rattle.std.specs.List.{range_with_len}
use Rattle.jh_ops.specs.Operation.{Operation}
use Rattle.jh_ops.specs.Pairing.{RefusesPairing}
use Rattle.jh_ops.specs.declared.pairs.PairError.{PairError}
use Rattle.jh_ops.specs.declared.pairs.PairError.TheVariants as pair_errors
use Rattle.jh_plots.specs.Calls.{AreTimedCallsOf, functions, latency}
use Rattle.jh_plots.specs.Latencies.{AreDecades}
use Rattle.jh_plots.specs.Panels.{ArePanelsOf, own_calls, panels_for}
use Rattle.jh_plots.specs.Rates.{RATE_WINDOWS, counts_of, most_of, rate_axis_top, width_of}
use Rattle.jh_plots.specs.Shades.{AreShadesOf}
use Rattle.jh_plots.specs.Ticks.{latency_ticks, rate_ticks, time_ticks}
use Rattle.jh_plots.specs.Times.{HaveTimes, IsFirstTimeless, time_axis_end, greatest}
use Rattle.jh_plots.specs.declared.calls.TimedCall.{TimedCall}
use Rattle.jh_plots.specs.declared.error.PlotError.{PlotError}
use Rattle.jh_plots.specs.declared.error.PlotError.TheVariants.{TimeMissing, Pair, OutOfMemory}
use Rattle.jh_plots.specs.declared.plot.Plot.{Plot}
use Rattle.jh_plots.specs.declared.scale.Scale.{Scale}
use Rattle.jh_bands.specs.declared.band.Band.{Band}

-- the greatest count of a window of any panel
abbrev pub most_in : ℕ → List TimedCall → ℕ → ℕ
most_in end calls panels =
    greatest
    (map (λ panel. most_of (counts_of end (own_calls calls panel))) (range_with_len 0 panels))

-- how far the axes go: up to the end of the time, to the greatest latency and to the greatest rate
pub record IsScaleOf (last : ℕ) (calls : List TimedCall) (panels : ℕ) (scale : Scale) : Type 0 where
  pub end : scale.end ≡ last
  pub decades : AreDecades (greatest (map (latency last) calls)) scale.decades
  pub top : scale.top ≡ rate_axis_top (width_of RATE_WINDOWS last) (most_in last calls panels)

pub record IsPlotOf (history : List Operation) (bands : List Band) (plot : Plot) : Type 0 where
  pub all_calls : List TimedCall
  pub calls : AreTimedCallsOf history all_calls
  pub axes : Scale
  pub scale : IsScaleOf (time_axis_end history) all_calls (panels_for (length (functions history))) axes
  pub times : plot.times.items ≡ time_ticks axes.end
  pub latencies : plot.latencies.items ≡ latency_ticks axes.decades
  pub rates : plot.rates.items ≡ rate_ticks axes.top
  pub shades : AreShadesOf history bands plot.shades.items
  pub panels : ArePanelsOf axes (functions history) all_calls plot.panels.items

-- ---- refusals

-- the error that there is for one of pairing
abbrev pub plot_error_of_pairing : PairError → PlotError
plot_error_of_pairing pair_errors.OutOfMemory = OutOfMemory
plot_error_of_pairing error = Pair error

-- Why there is no plot: first for a time that is missing, then for the pairs. Memory can run out
-- only where each record has a time.
abbrev pub HasNoPlot : List Operation → PlotError → Type 0
HasNoPlot history (TimeMissing index) = IsFirstTimeless history index
HasNoPlot history (Pair error) =
    HaveTimes history × (plot_error_of_pairing error ≡ Pair error) × RefusesPairing history error
HasNoPlot history OutOfMemory = HaveTimes history
