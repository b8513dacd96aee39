-- How a command ends early (this project's own): refusals of the arguments and of the input have
-- status 3, errors of the machine and runs that were not completed 4.
use Rattle.std.specs.Prelude.{◌≡◌, ◌++◌, ℕ, List, Option, Some, None, codes}
use Rattle.std.specs.Fmt.{decimal}
use Rattle.jh_edn.specs.declared.error.EdnError.TheVariants as EdnError
use Rattle.jh_env.specs.declared.texts.EnvTextError.TheVariants as EnvTextError
use Rattle.jh_ops.specs.declared.history.HistoryError.TheVariants as HistoryError
use Rattle.jh_check.specs.declared.error.CheckError.TheVariants as CheckError
use Rattle.jh_histories.specs.declared.error.ReadHistoryError.TheVariants as ReadHistoryError
use Rattle.jh_independent.specs.declared.error.KeysError.TheVariants as KeysError
use Rattle.jh_step_texts.specs.declared.steps.StepTextError.TheVariants as StepTextError
use Rattle.jh_settings.specs.declared.error.SettingsError.TheVariants as SettingsError
use Rattle.jh_simnode.specs.declared.events.WorldError.TheVariants as WorldError
use Rattle.jh_simnode.specs.declared.serial.RunError.TheVariants as RunError
use Rattle.jh_workers.specs.declared.monitor.RunError.TheVariants as ThreadsError
use Rattle.jh_search.specs.declared.threads.SearchError.TheVariants as SearchError
use Rattle.jh_plots.specs.declared.error.PlotError.TheVariants as PlotError
use Rattle.jh_cli.specs.declared.error.CliError.{CliError}
use Rattle.jh_cli.specs.declared.error.CliError.TheVariants.{Input, EnvironmentMissing, Environment}
use Rattle.jh_cli.specs.declared.error.CliError.TheVariants.{Element, History, Check, Settings, Run}
use Rattle.jh_cli.specs.declared.error.CliError.TheVariants.{HistoryFull, Mismatch, Thread}
use Rattle.jh_cli.specs.declared.error.CliError.TheVariants.{Misplaced, Missing, BadAccounts}
use Rattle.jh_cli.specs.JudgingOptions.{option_checker, option_name}
use Rattle.jh_checkers.specs.Checkers.{checker_name}
use Rattle.jh_cli.specs.declared.error.CliError.TheVariants.{BadPalette}
use Rattle.jh_cli.specs.declared.error.CliError.TheVariants.{Unwritable, TimeMissing, SettingsRead, Read, Write}
use Rattle.jh_cli.specs.declared.error.CliError.TheVariants.{OutOfMemory}

abbrev pub error_status : CliError → ℕ
error_status (Input error) = 3
error_status EnvironmentMissing = 3
error_status (Environment error) = 3
error_status (Element number error) = 3
error_status (History error) = 3
error_status (Check error) = 3
error_status (Settings error) = 3
error_status (Run error) = 4
error_status HistoryFull = 4
error_status Mismatch = 4
error_status Thread = 4
error_status (Misplaced option) = 3
error_status (Missing option) = 3
error_status BadAccounts = 3
error_status BadPalette = 3
error_status Unwritable = 3
error_status (TimeMissing index) = 3
error_status SettingsRead = 4
error_status Read = 4
error_status Write = 4
error_status OutOfMemory = 4

-- The text of an error that is the commands' own. All others are errors of a crate below, whose
-- text no clause knows.
abbrev pub command_text : CliError → Option (List ℕ)
command_text EnvironmentMissing = Some (codes "environment missing")
command_text HistoryFull = Some (codes "history full")
command_text Mismatch = Some (codes "mismatch")
command_text Thread = Some (codes "thread failed")
command_text (Misplaced option) =
    Some (option_name option ++ (codes ": only for " ++ checker_name (option_checker option)))
command_text (Missing option) =
    Some (option_name option ++ (codes ": needed for " ++ checker_name (option_checker option)))
command_text BadAccounts = Some (codes "--accounts: no vector or list of values")
command_text BadPalette =
    Some (codes "--palette: not kinds of cut, slow, loss, fix, pause, kill, bump, with commas between")
command_text Unwritable = Some (codes "settings: generator too deep to be written again")
command_text (TimeMissing index) =
    Some (codes "operation " ++ (decimal index ++ codes ": time missing"))
command_text SettingsRead = Some (codes "settings: read failed")
command_text Read = Some (codes "read failed")
command_text Write = Some (codes "write failed")
command_text OutOfMemory = Some (codes "out of memory")
command_text error = None

-- what an error of the reader of EDN means to a command
abbrev pub edn_error : EdnError.the_data → CliError
edn_error EdnError.Read = Read
edn_error EdnError.Write = Write
edn_error EdnError.OutOfMemory = OutOfMemory
edn_error error = Input error

-- an error of the reader of EDN that is the input's own: no failed read or write, and not out of
-- memory
abbrev pub IsInputError : EdnError.the_data → Type 0
IsInputError error = edn_error error ≡ Input error

-- what a refusal of the environment means to a command
abbrev pub environment_error : EnvTextError.the_data → CliError
environment_error EnvTextError.OutOfMemory = OutOfMemory
environment_error error = Environment error

-- a refusal of the environment, and not out of memory
abbrev pub IsEnvironmentError : EnvTextError.the_data → Type 0
IsEnvironmentError error = environment_error error ≡ Environment error

-- what a refusal of the element of a number means to a command
abbrev pub step_error : ℕ → StepTextError.the_data → CliError
step_error number StepTextError.OutOfMemory = OutOfMemory
step_error number error = Element number error

-- what a refusal of a history means to a command
abbrev pub history_error : HistoryError.the_data → CliError
history_error HistoryError.OutOfMemory = OutOfMemory
history_error error = History error

-- a refusal of a history, and not out of memory
abbrev pub IsHistoryError : HistoryError.the_data → Type 0
IsHistoryError error = history_error error ≡ History error

-- what it means to a command that no history is read
abbrev pub reading_error : ReadHistoryError.the_data → CliError
reading_error (ReadHistoryError.Text error) = edn_error error
reading_error (ReadHistoryError.History error) = history_error error

-- what a refusal by a checker means to a command
abbrev pub check_error : CheckError.the_data → CliError
check_error CheckError.OutOfMemory = OutOfMemory
check_error error = Check error

-- what a refusal of the keys of a history means to a command
abbrev pub keys_error : KeysError.the_data → CliError
keys_error (KeysError.BadValue place) = Check (CheckError.BadValue place)
keys_error (KeysError.Key error) = check_error error
keys_error KeysError.Thread = Thread
keys_error KeysError.OutOfMemory = OutOfMemory

-- what a refusal of settings means to a command
abbrev pub settings_error : SettingsError.the_data → CliError
settings_error SettingsError.OutOfMemory = OutOfMemory
settings_error error = Settings error

-- a refusal of settings, and not out of memory
abbrev pub IsSettingsError : SettingsError.the_data → Type 0
IsSettingsError error = settings_error error ≡ Settings error

-- what the end of a run that was not completed means to a command
abbrev pub run_error : RunError.the_data → CliError
run_error (RunError.World WorldError.OutOfMemory) = OutOfMemory
run_error RunError.OutOfMemory = OutOfMemory
run_error error = Run error

-- what a refusal of a world means to a command; no run asks for a node that is not there
abbrev pub world_error : WorldError.the_data → CliError
world_error WorldError.UnknownNode = Mismatch
world_error WorldError.TooManyEvents = Run (RunError.World WorldError.TooManyEvents)
world_error WorldError.OutOfMemory = OutOfMemory

-- what the end of a run on threads that gave no outcome means to a command
abbrev pub threads_error : ThreadsError.the_data → CliError
threads_error ThreadsError.HistoryFull = HistoryFull
threads_error (ThreadsError.World error) = world_error error
threads_error ThreadsError.Mismatch = Mismatch
threads_error ThreadsError.Thread = Thread
threads_error ThreadsError.OutOfMemory = OutOfMemory

-- what it means to a command that a history has no plot
abbrev pub plot_error : PlotError.the_data → CliError
plot_error (PlotError.TimeMissing index) = TimeMissing index
plot_error (PlotError.Pair error) = Check (CheckError.Pair error)
plot_error PlotError.OutOfMemory = OutOfMemory

-- what the end of a search without an answer means to a command
abbrev pub search_error : SearchError.the_data → CliError
search_error SearchError.Thread = Thread
search_error SearchError.OutOfMemory = OutOfMemory
