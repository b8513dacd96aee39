-- Why `jeprun run` refuses an input, or does not complete a run (this project's own). Each is
-- looked at only where all before it is right.
use Rattle.std.specs.Prelude.{◌≡◌, ◌≢◌, ℕ, List}
use Rattle.jh_edn.specs.Refused.{IsReaderError}
use Rattle.jh_ops.specs.Operation.{Operation}
use Rattle.jh_check.specs.declared.error.CheckError.{CheckError}
use Rattle.jh_check.specs.declared.error.CheckError.TheVariants as check_errors
use Rattle.jh_checkers.specs.Findings.{RefusesChecking}
use Rattle.jh_checkers.specs.declared.checker.Checker.{Checker}
use Rattle.jh_simnode.specs.declared.events.WorldError.TheVariants as WorldError
use Rattle.jh_simnode.specs.declared.serial.RunError.TheVariants as RunError
use Rattle.jh_simnode.specs.Plans.{PlanValue}
use Rattle.jh_simnode.specs.Runs.{Stops}
use Rattle.jh_settings.specs.Settings as settings
use Rattle.jh_settings.specs.Settings.{AreSettingsOf}
use Rattle.jh_settings.specs.declared.choices.Mode.{Mode}
use Rattle.jh_cli.specs.RunText.{IsRunTextOf}
use Rattle.jh_cli.specs.Status.{IsInputError, IsSettingsError}
use Rattle.jh_cli.specs.declared.error.CliError.{CliError}
use Rattle.jh_cli.specs.declared.error.CliError.TheVariants.{Input, Settings, Run, HistoryFull}
use Rattle.jh_cli.specs.declared.error.CliError.TheVariants.{Mismatch, Thread, Read, Write}
use Rattle.jh_cli.specs.declared.error.CliError.TheVariants.{OutOfMemory}

-- The checker refuses the history of a run on threads, which is a mismatch. (No plan is known whose
-- run comes to this; that of a serial run never does.)
abbrev pub RefusesRecorded : Checker → List Operation → CliError → Type 0
RefusesRecorded checker history Mismatch =
    (refusal : CheckError) × (refusal ≢ check_errors.OutOfMemory)
    × RefusesChecking checker history refusal
RefusesRecorded checker history OutOfMemory = Unit {0}
RefusesRecorded checker history _ = ⊥

-- Why the serial run of a plan is not completed: in a whole round no thread got a call, or memory
-- was refused. Once it is completed, its history is judged.
abbrev pub RefusesSerial : PlanValue → CliError → Type 0
RefusesSerial p (Run error) = (error ≡ RunError.Stuck) × Stops p error
RefusesSerial p OutOfMemory = Unit {0}
RefusesSerial p _ = ⊥

-- Why a run on threads gives no outcome, or its history is not judged: which of these it is depends
-- on the threads.
abbrev pub RefusesThreads : CliError → Type 0
RefusesThreads (Run error) = error ≡ RunError.World WorldError.TooManyEvents
RefusesThreads HistoryFull = Unit {0}
RefusesThreads Mismatch = Unit {0}
RefusesThreads Thread = Unit {0}
RefusesThreads OutOfMemory = Unit {0}
RefusesThreads _ = ⊥

-- why the run of a plan in this mode is not completed
abbrev pub RefusesRunIn : PlanValue → Mode → CliError → Type 0
RefusesRunIn p Mode.Serial e = RefusesSerial p e
RefusesRunIn p Mode.Threads e = RefusesThreads e

-- Why the run that bytes mean is refused. Out of memory has a name of its own, wherever it came.
abbrev pub RefusesRunBytes : List ℕ → CliError → Type 0
RefusesRunBytes input (Settings error) =
    IsSettingsError error × settings.RefusesSettings input error
RefusesRunBytes input OutOfMemory = Unit {0}
RefusesRunBytes input e =
    (p : PlanValue) × (mode : Mode) × (budget : ℕ) × AreSettingsOf input p mode budget
    × RefusesRunIn p mode e

-- A failed read, an input that does not end and out of memory may come with any input; a failed
-- write comes only where there is something to write.
abbrev pub RefusesRun : List ℕ → CliError → Type 0
RefusesRun input (Input error) = IsInputError error × IsReaderError error
RefusesRun input Read = Unit {0}
RefusesRun input Write = (status : ℕ) × (output : List ℕ) × IsRunTextOf input status output
RefusesRun input e = RefusesRunBytes input e
