-- Why `plot` refuses an input, from why its history is not read or has no plot.
use Rattle.std.proofs.Common.{◌≡◌, ℕ, Bool, List, refl, sym, subst}
use Rattle.jh_edn.specs.declared.error.EdnError.TheVariants as edn
use Rattle.jh_histories.specs.declared.error.ReadHistoryError.{ReadHistoryError}
use Rattle.jh_histories.specs.declared.error.ReadHistoryError.TheVariants as reading
use Rattle.jh_ops.specs.Operation.{Operation}
use Rattle.jh_ops.specs.declared.history.HistoryError.TheVariants as history_errors
use Rattle.jh_plots.specs.Plots as plots
use Rattle.jh_plots.specs.declared.error.PlotError.{PlotError}
use Rattle.jh_plots.specs.declared.error.PlotError.TheVariants as plot_errors
use Rattle.jh_cli.specs.HistoryInput.{IsHistoryInput, RefusesHistoryInput}
use Rattle.jh_cli.proofs.CheckLemmas.{input_written}
use Rattle.jh_cli.specs.PlotRefusals.{IsUnplottable, RefusesPlot, RefusesPlotting}
use Rattle.jh_cli.specs.Status.{plot_error, reading_error}
use Rattle.jh_cli.specs.declared.error.CliError.{CliError}
use Rattle.jh_cli.specs.declared.error.CliError.TheVariants.{TimeMissing, Input, EnvironmentMissing, Environment, Element, History, Check, Settings, Run, HistoryFull, Mismatch, Thread, Misplaced, Missing, BadAccounts, BadPalette, Unwritable, SettingsRead, Read, Write, OutOfMemory}

pub plotted_from : (skips_unread : Bool) (input : List ℕ) (error : ReadHistoryError) → RefusesHistoryInput skips_unread input error → RefusesPlot skips_unread input (reading_error error)
plotted_from skips_unread input (reading.Text (edn.UnexpectedEnd line)) refused = (refl, refused)
plotted_from skips_unread input (reading.Text (edn.BadToken line)) refused = (refl, refused)
plotted_from skips_unread input (reading.Text (edn.FloatUnsupported line)) refused = (refl, refused)
plotted_from skips_unread input (reading.Text (edn.IntegerRange line)) refused = (refl, refused)
plotted_from skips_unread input (reading.Text (edn.BadEscape line)) refused = (refl, refused)
plotted_from skips_unread input (reading.Text (edn.OddMap line)) refused = (refl, refused)
plotted_from skips_unread input (reading.Text (edn.DuplicateKey line)) refused = (refl, refused)
plotted_from skips_unread input (reading.Text (edn.TooDeep line)) refused = (refl, refused)
plotted_from skips_unread input (reading.Text edn.Utf8) refused = (refl, refused)
plotted_from skips_unread input (reading.Text edn.TooLong) refused = (refl, refused)
plotted_from skips_unread input (reading.Text edn.Read) refused = tt
plotted_from skips_unread input (reading.Text edn.Write) refused = absurd (input_written skips_unread input refused)
plotted_from skips_unread input (reading.Text edn.OutOfMemory) refused = tt
plotted_from skips_unread input (reading.History history_errors.OutOfMemory) refused = tt
plotted_from skips_unread input (reading.History (history_errors.Op place why)) refused = (refl, refused)

-- what a history may have no plot for
abbrev IsPlotting : CliError → Type 0
IsPlotting (TimeMissing index) = Unit {0}
IsPlotting (Check error) = Unit {0}
IsPlotting OutOfMemory = Unit {0}
IsPlotting _ = ⊥

by_error : (error : PlotError) → IsPlotting (plot_error error)
by_error (plot_errors.TimeMissing index) = tt
by_error (plot_errors.Pair error) = tt
by_error plot_errors.OutOfMemory = tt

by_plot : (history : List Operation) (e : CliError) → IsUnplottable history e → IsPlotting e
by_plot history e refused = subst IsPlotting (sym refused.2) (by_error refused.0)

-- a plot that is refused with an error is so for the command
pub unplotted : (history : List Operation) (error : PlotError) → plots.HasNoPlot history error → RefusesPlotting history (plot_error error)
unplotted history (plot_errors.TimeMissing index) refused = (plot_errors.TimeMissing index, refused, refl)
unplotted history (plot_errors.Pair error) refused = (plot_errors.Pair error, refused, refl)
unplotted history plot_errors.OutOfMemory refused = tt

pub plotting_refused : (skips_unread : Bool) (input : List ℕ) (history : List Operation) (below : List ℕ) (e : CliError) → IsHistoryInput skips_unread input history below → RefusesPlotting history e
    → RefusesPlot skips_unread input e
plotting_refused skips_unread input history below (TimeMissing index) parts refused = (history, below, parts, refused)
plotting_refused skips_unread input history below (Input error) parts refused = absurd (by_plot history (Input error) refused)
plotting_refused skips_unread input history below EnvironmentMissing parts refused = (history, below, parts, refused)
plotting_refused skips_unread input history below (Environment error) parts refused = (history, below, parts, refused)
plotting_refused skips_unread input history below (Element number error) parts refused = (history, below, parts, refused)
plotting_refused skips_unread input history below (History error) parts refused = absurd (by_plot history (History error) refused)
plotting_refused skips_unread input history below (Check error) parts refused = (history, below, parts, refused)
plotting_refused skips_unread input history below (Settings error) parts refused = (history, below, parts, refused)
plotting_refused skips_unread input history below (Run error) parts refused = (history, below, parts, refused)
plotting_refused skips_unread input history below HistoryFull parts refused = (history, below, parts, refused)
plotting_refused skips_unread input history below Mismatch parts refused = (history, below, parts, refused)
plotting_refused skips_unread input history below Thread parts refused = (history, below, parts, refused)
plotting_refused skips_unread input history below (Misplaced option) parts refused = (history, below, parts, refused)
plotting_refused skips_unread input history below (Missing option) parts refused = (history, below, parts, refused)
plotting_refused skips_unread input history below BadAccounts parts refused = (history, below, parts, refused)
plotting_refused skips_unread input history below BadPalette parts refused = (history, below, parts, refused)
plotting_refused skips_unread input history below Unwritable parts refused = (history, below, parts, refused)
plotting_refused skips_unread input history below SettingsRead parts refused = (history, below, parts, refused)
plotting_refused skips_unread input history below Read parts refused = tt
plotting_refused skips_unread input history below Write parts refused = absurd (by_plot history Write refused)
plotting_refused skips_unread input history below OutOfMemory parts refused = tt
