-- Why `jeprun plot` refuses an input (this project's own): what is no text of values, no history, or a
-- history that has no plot. Each is looked at only where all before it is right.
use Rattle.std.specs.Prelude.{◌≡◌, ℕ, Bool, List}
use Rattle.jh_histories.specs.declared.error.ReadHistoryError.TheVariants as reading
use Rattle.jh_ops.specs.Operation.{Operation}
use Rattle.jh_plots.specs.Plots as plots
use Rattle.jh_plots.specs.declared.error.PlotError.{PlotError}
use Rattle.jh_cli.specs.HistoryInput.{IsHistoryInput, RefusesHistoryInput}
use Rattle.jh_cli.specs.PlotText.{IsPlotTextOf}
use Rattle.jh_cli.specs.Status.{IsInputError, IsHistoryError, plot_error}
use Rattle.jh_cli.specs.declared.error.CliError.{CliError}
use Rattle.jh_cli.specs.declared.error.CliError.TheVariants.{Input, History, Read, Write}
use Rattle.jh_cli.specs.declared.error.CliError.TheVariants.{OutOfMemory}

-- a history has no plot
abbrev pub IsUnplottable : List Operation → CliError → Type 0
IsUnplottable history e =
    (error : PlotError) × plots.HasNoPlot history error × (e ≡ plot_error error)

-- why no page is made of a history; memory may run out with any
abbrev pub RefusesPlotting : List Operation → CliError → Type 0
RefusesPlotting history OutOfMemory = Unit {0}
RefusesPlotting history e = IsUnplottable history e

-- Why an input is refused: where its text is wrong, for the first error in it. A failed read and out of
-- memory may come with any input; a failed write comes only where there is something to write.
abbrev pub RefusesPlot : Bool → List ℕ → CliError → Type 0
RefusesPlot skips_unread input (Input error) =
    IsInputError error × RefusesHistoryInput skips_unread input (reading.Text error)
RefusesPlot skips_unread input (History error) =
    IsHistoryError error × RefusesHistoryInput skips_unread input (reading.History error)
RefusesPlot skips_unread input Read = Unit {0}
RefusesPlot skips_unread input Write = (status : ℕ) × (output : List ℕ) × IsPlotTextOf skips_unread input status output
RefusesPlot skips_unread input OutOfMemory = Unit {0}
RefusesPlot skips_unread input e =
    (history : List Operation) × (below : List ℕ) × IsHistoryInput skips_unread input history below
    × IsUnplottable history e
