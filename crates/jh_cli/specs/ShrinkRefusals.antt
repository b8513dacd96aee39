-- Why `jeprun shrink` refuses an input (this project's own). A run that is refused counts as out of
-- memory, for which a smaller schedule is no answer.
use Rattle.std.specs.Prelude.{ℕ, List, ⊤}
use Rattle.jh_edn.specs.Refused.{IsReaderError}
use Rattle.jh_settings.specs.Settings as settings
use Rattle.jh_cli.specs.ShrinkText.{IsShrinkTextOf}
use Rattle.jh_cli.specs.Status.{IsInputError, IsSettingsError}
use Rattle.jh_cli.specs.declared.error.CliError.{CliError}
use Rattle.jh_cli.specs.declared.error.CliError.TheVariants.{Input, Settings, Read, Write}
use Rattle.jh_cli.specs.declared.error.CliError.TheVariants.{OutOfMemory}

-- why the schedule that bytes mean is not made small
abbrev pub RefusesShrinkBytes : List ℕ → CliError → Type 0
RefusesShrinkBytes input (Settings error) =
    IsSettingsError error × settings.RefusesSettings input error
RefusesShrinkBytes input OutOfMemory = ⊤
RefusesShrinkBytes input e = ⊥

-- A failed read, an input that does not end and out of memory may come with any input; a failed
-- write comes only where there is something to write.
abbrev pub RefusesShrinking : ℕ → List ℕ → CliError → Type 0
RefusesShrinking runs input (Input error) = IsInputError error × IsReaderError error
RefusesShrinking runs input Read = ⊤
RefusesShrinking runs input Write = (status : ℕ) × (output : List ℕ) × IsShrinkTextOf runs input status output
RefusesShrinking runs input e = RefusesShrinkBytes input e
