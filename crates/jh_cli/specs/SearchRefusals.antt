-- Why `jeprun search` refuses its arguments or an input (this project's own).
use Rattle.std.specs.Prelude.{◌≡◌, ◌≢◌, ℕ, List, None, Some, ⊤}
use Rattle.jh_edn.specs.Refused.{IsReaderError}
use Rattle.jh_simnode.specs.Plans.{PlanValue}
use Rattle.jh_settings.specs.Settings as settings
use Rattle.jh_settings.specs.Settings.{AreSettingsOf}
use Rattle.jh_settings.specs.declared.choices.Mode.{Mode}
use Rattle.jh_settings_texts.specs.SettingsWritten.{CanBeWritten}
use Rattle.jh_cli.specs.SearchText.{IsSearchTextOf}
use Rattle.jh_cli.specs.Status.{IsInputError, IsSettingsError}
use Rattle.jh_cli.specs.declared.error.CliError.{CliError}
use Rattle.jh_cli.specs.declared.error.CliError.TheVariants.{BadPalette, Input, Settings}
use Rattle.jh_cli.specs.declared.error.CliError.TheVariants.{Unwritable, Thread, Read, Write}
use Rattle.jh_cli.specs.declared.error.CliError.TheVariants.{OutOfMemory}
use Rattle.jh_cli.specs.declared.search_command.SearchQuestion.{SearchQuestion}

-- candidates are tried, and not by one thread alone
abbrev pub WantsThreads : SearchQuestion → Type 0
WantsThreads question = (question.show ≡ None) × (question.threads ≢ Some 1)

-- Why the candidates of the plan that bytes mean are not searched. A plan can't be written again where
-- the text of its generator, as it is printed, would be nested deeper than a text may be. Threads are
-- asked for only where the plan can be written.
abbrev pub RefusesSearchBytes : SearchQuestion → List ℕ → CliError → Type 0
RefusesSearchBytes question input (Settings error) =
    IsSettingsError error × settings.RefusesSettings input error
RefusesSearchBytes question input Unwritable =
    (p : PlanValue) × (mode : Mode) × (budget : ℕ) × AreSettingsOf input p mode budget
    × (CanBeWritten p → ⊥)
RefusesSearchBytes question input Thread =
    (p : PlanValue) × (mode : Mode) × (budget : ℕ) × AreSettingsOf input p mode budget
    × CanBeWritten p × WantsThreads question
RefusesSearchBytes question input OutOfMemory = ⊤
RefusesSearchBytes question input e = ⊥

-- A palette that names no kinds is refused before all else. A failed read, an input that does not end
-- and out of memory may come with any input; a failed write comes only where there is something to
-- write.
abbrev pub RefusesSearch : SearchQuestion → List ℕ → CliError → Type 0
RefusesSearch question input BadPalette = question.palette ≡ None
RefusesSearch question input (Input error) = IsInputError error × IsReaderError error
RefusesSearch question input Read = ⊤
RefusesSearch question input Write =
    (status : ℕ) × (output : List ℕ) × IsSearchTextOf question input status output
RefusesSearch question input e = RefusesSearchBytes question input e
