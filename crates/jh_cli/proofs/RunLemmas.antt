-- Why a run is refused or not completed, from why a part of it is.
use Rattle.std.proofs.Common.{ℕ, List, refl}
use Rattle.jh_check.specs.declared.error.CheckError.{CheckError}
use Rattle.jh_check.specs.declared.error.CheckError.TheVariants as CheckErrors
use Rattle.jh_edn.specs.declared.error.EdnError.TheVariants as EdnError
use Rattle.jh_checkers.specs.Findings.{RefusesChecking}
use Rattle.jh_checkers.specs.declared.checker.Checker.{Checker}
use Rattle.jh_settings.specs.declared.choices.Mode.{Mode}
use Rattle.jh_simnode.specs.Runs.{Stops}
use Rattle.jh_simnode.specs.declared.serial.RunError.TheVariants as RunError
use Rattle.jh_simnode.specs.declared.events.WorldError.TheVariants as WorldError
use Rattle.jh_workers.specs.declared.monitor.RunError.TheVariants as ThreadsError
use Rattle.jh_ops.specs.Operation.{Operation}
use Rattle.jh_simnode.specs.Plans.{PlanValue}
use Rattle.jh_settings.specs.Settings as settings
use Rattle.jh_settings.specs.Settings.{AreSettingsOf}
use Rattle.jh_settings.specs.declared.error.SettingsError.TheVariants as SettingsError
use Rattle.jh_cli.specs.RunInside.{recorded_history_error}
use Rattle.jh_cli.specs.RunRefusals.{RefusesRunBytes, RefusesRecorded, RefusesRun, RefusesSerial, RefusesRunIn, RefusesThreads}
use Rattle.jh_cli.specs.Status.{run_error, settings_error, threads_error, world_error}
use Rattle.jh_cli.specs.declared.error.CliError.{CliError}
use Rattle.jh_cli.specs.declared.error.CliError.TheVariants.{TimeMissing, Input, EnvironmentMissing, Environment, Element, History, Check, Settings, Run, HistoryFull, Mismatch, Thread, Misplaced, Missing, BadAccounts, BadPalette, Unwritable, SettingsRead, Read, Write, OutOfMemory}

-- bytes that mean no settings
pub settings_refused : (input : List ℕ) (error : SettingsError.the_data) → settings.RefusesSettings input error → RefusesRunBytes input (settings_error error)
settings_refused input SettingsError.NotToml h = (refl, h)
settings_refused input (SettingsError.Unknown key) h = (refl, h)
settings_refused input (SettingsError.Missing key) h = (refl, h)
settings_refused input (SettingsError.BadValue key) h = (refl, h)
settings_refused input SettingsError.OutOfMemory h = tt

-- the run of a plan that they mean
pub run_refused : (input : List ℕ) (p : PlanValue) (mode : Mode) (budget : ℕ) (e : CliError) → AreSettingsOf input p mode budget
    → RefusesRunIn p mode e → RefusesRunBytes input e
run_refused input p mode budget (Input error) parsed h = (p, mode, budget, parsed, h)
run_refused input p mode budget EnvironmentMissing parsed h = (p, mode, budget, parsed, h)
run_refused input p mode budget (Environment error) parsed h = (p, mode, budget, parsed, h)
run_refused input p mode budget (Element number error) parsed h = (p, mode, budget, parsed, h)
run_refused input p mode budget (History error) parsed h = (p, mode, budget, parsed, h)
run_refused input p mode budget (Check error) parsed h = (p, mode, budget, parsed, h)
run_refused input p Mode.Serial budget (Settings error) parsed h = absurd h
run_refused input p Mode.Threads budget (Settings error) parsed h = absurd h
run_refused input p mode budget (Run error) parsed h = (p, mode, budget, parsed, h)
run_refused input p mode budget HistoryFull parsed h = (p, mode, budget, parsed, h)
run_refused input p mode budget Mismatch parsed h = (p, mode, budget, parsed, h)
run_refused input p mode budget Thread parsed h = (p, mode, budget, parsed, h)
run_refused input p mode budget (Misplaced option) parsed h = (p, mode, budget, parsed, h)
run_refused input p mode budget (Missing option) parsed h = (p, mode, budget, parsed, h)
run_refused input p mode budget BadAccounts parsed h = (p, mode, budget, parsed, h)
run_refused input p mode budget BadPalette parsed h = (p, mode, budget, parsed, h)
run_refused input p mode budget Unwritable parsed h = (p, mode, budget, parsed, h)
run_refused input p mode budget SettingsRead parsed h = (p, mode, budget, parsed, h)
run_refused input p mode budget (TimeMissing index) parsed h = (p, mode, budget, parsed, h)
run_refused input p mode budget Read parsed h = (p, mode, budget, parsed, h)
run_refused input p mode budget Write parsed h = (p, mode, budget, parsed, h)
run_refused input p mode budget OutOfMemory parsed h = tt

-- a run is refused neither for its text nor for a failed write
no_input : (p : PlanValue) (mode : Mode) (error : EdnError.the_data) → RefusesRunIn p mode (Input error) → ⊥
no_input p Mode.Serial error h = h
no_input p Mode.Threads error h = h

no_write : (p : PlanValue) (mode : Mode) → RefusesRunIn p mode Write → ⊥
no_write p Mode.Serial h = h
no_write p Mode.Threads h = h

-- and of an input of these bytes
pub bytes_refused : (input : List ℕ) (e : CliError) → RefusesRunBytes input e → RefusesRun input e
bytes_refused input (Input error) h = absurd (no_input h.0 h.1 error h.4)
bytes_refused input EnvironmentMissing h = h
bytes_refused input (Environment error) h = h
bytes_refused input (Element number error) h = h
bytes_refused input (History error) h = h
bytes_refused input (Check error) h = h
bytes_refused input (Settings error) h = h
bytes_refused input (Run error) h = h
bytes_refused input HistoryFull h = h
bytes_refused input Mismatch h = h
bytes_refused input Thread h = h
bytes_refused input (Misplaced option) h = h
bytes_refused input (Missing option) h = h
bytes_refused input BadAccounts h = h
bytes_refused input BadPalette h = h
bytes_refused input Unwritable h = h
bytes_refused input SettingsRead h = h
bytes_refused input (TimeMissing index) h = h
bytes_refused input Read h = tt
bytes_refused input Write h = absurd (no_write h.0 h.1 h.4)
bytes_refused input OutOfMemory h = tt

-- ---- what the checker of a run's own history refuses

-- a refusal of the history of a run is a mismatch, and out of memory stays what it is
pub own_refused : (checker : Checker) (history : List Operation) (error : CheckError) → RefusesChecking checker history error
    → RefusesRecorded checker history (recorded_history_error error)
own_refused checker history (CheckErrors.Pair pairing) h = (CheckErrors.Pair pairing, λ e. absurd cc, h)
own_refused checker history (CheckErrors.BadValue place) h = (CheckErrors.BadValue place, λ e. absurd cc, h)
own_refused checker history (CheckErrors.NegativeAdd place) h = (CheckErrors.NegativeAdd place, λ e. absurd cc, h)
own_refused checker history (CheckErrors.RepeatedAppend place) h = (CheckErrors.RepeatedAppend place, λ e. absurd cc, h)
own_refused checker history CheckErrors.OutOfMemory h = tt

-- a serial run is not completed
pub stop_refused : (p : PlanValue) (error : RunError.the_data) → Stops p error → RefusesSerial p (run_error error)
stop_refused p RunError.Stuck h = (refl, h)
stop_refused p RunError.OutOfMemory h = tt
stop_refused p (RunError.World WorldError.OutOfMemory) h = tt
stop_refused p (RunError.World WorldError.UnknownNode) h = absurd h
stop_refused p (RunError.World WorldError.TooManyEvents) h = absurd h

-- the history of a run on threads is refused
pub threads_refused : (checker : Checker) (history : List Operation) (e : CliError) → RefusesRecorded checker history e → RefusesThreads e
threads_refused checker history Mismatch h = tt
threads_refused checker history OutOfMemory h = tt
threads_refused checker history (Check error) h = absurd h
threads_refused checker history (Input error) h = absurd h
threads_refused checker history EnvironmentMissing h = absurd h
threads_refused checker history (Environment error) h = absurd h
threads_refused checker history (Element number error) h = absurd h
threads_refused checker history (History error) h = absurd h
threads_refused checker history (Settings error) h = absurd h
threads_refused checker history (Run error) h = absurd h
threads_refused checker history HistoryFull h = absurd h
threads_refused checker history Thread h = absurd h
threads_refused checker history (Misplaced option) h = absurd h
threads_refused checker history (Missing option) h = absurd h
threads_refused checker history BadAccounts h = absurd h
threads_refused checker history BadPalette h = absurd h
threads_refused checker history Unwritable h = absurd h
threads_refused checker history SettingsRead h = absurd h
threads_refused checker history (TimeMissing index) h = absurd h
threads_refused checker history Read h = absurd h
threads_refused checker history Write h = absurd h

-- what the threads and the world refuse
pub world_refused : (error : WorldError.the_data) → RefusesThreads (world_error error)
world_refused WorldError.UnknownNode = tt
world_refused WorldError.TooManyEvents = refl
world_refused WorldError.OutOfMemory = tt

pub outcome_refused : (error : ThreadsError.the_data) → RefusesThreads (threads_error error)
outcome_refused ThreadsError.HistoryFull = tt
outcome_refused (ThreadsError.World error) = world_refused error
outcome_refused ThreadsError.Mismatch = tt
outcome_refused ThreadsError.Thread = tt
outcome_refused ThreadsError.OutOfMemory = tt
