-- What the command `run` makes of a refusal of its own history (this project's own).
use Rattle.jh_check.specs.declared.error.CheckError.{CheckError}
use Rattle.jh_check.specs.declared.error.CheckError.TheVariants as refused
use Rattle.jh_cli.specs.declared.error.CliError.{CliError}
use Rattle.jh_cli.specs.declared.error.CliError.TheVariants.{Mismatch, OutOfMemory}

-- a mismatch, but for out of memory
abbrev pub recorded_history_error : CheckError → CliError
recorded_history_error refused.OutOfMemory = OutOfMemory
recorded_history_error _ = Mismatch
