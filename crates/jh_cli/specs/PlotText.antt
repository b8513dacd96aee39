-- What `jeprun plot` writes: a page with the latencies and the rates of a history, and when which fault
-- was active (what Jepsen's checker/perf draws).
use Rattle.std.specs.Prelude.{◌≡◌, ℕ, Bool, List, [], map}
use Rattle.jh_bands.specs.Bands.{bands_in, view_band}
use Rattle.jh_bands.specs.declared.band.Band.{Band}
use Rattle.jh_ops.specs.Operation.{Operation}
use Rattle.jh_plot_pages.specs.Page.{plot_page_text}
use Rattle.jh_plots.specs.Plots.{IsPlotOf}
use Rattle.jh_plots.specs.declared.plot.Plot.{Plot}
use Rattle.jh_cli.specs.HistoryInput.{IsHistoryInput}

-- the page of a history: of its plot, with the bands of the faults whose steps it has in its own records
pub record IsPlotPage (history : List Operation) (output : List ℕ) : Type 0 where
  pub bands : List Band
  pub of_history : map view_band bands ≡ bands_in [] history
  pub plot : Plot
  pub plotted : IsPlotOf history bands plot
  pub page : output ≡ plot_page_text plot

-- for an input: the page of the history that it is, or, of what `run` or `drive` printed, of the one in it
abbrev pub IsPlotTextOf : Bool → List ℕ → ℕ → List ℕ → Type 0
IsPlotTextOf skips_unread input status output =
    (history : List Operation) × (below : List ℕ) × IsHistoryInput skips_unread input history below
    × IsPlotPage history output × (status ≡ 0)
