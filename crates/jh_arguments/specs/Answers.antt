-- What the program does for its arguments (this project's own): the command that they ask for, what is
-- written, and why it may end otherwise.
use Rattle.std.specs.Prelude.{◌≡◌, ◌⊎◌, ℕ, List, [], Option, Some, None, Result, Ok, Err, option_map}
use Rattle.clap.specs.Words.{App, Row, Text, fault_of, subcommand_of}
use Rattle.jh_edn.specs.Edn.{Edn}
use Rattle.jh_edn.specs.View.{views}
use Rattle.jh_cli.specs.Outputs.{OnInput, WritesOutput}
use Rattle.jh_cli.specs.declared.error.CliError.{CliError}
use Rattle.jh_cli.specs.declared.error.CliError.TheVariants as failures
use Rattle.jh_drive.specs.Drive.{IsDriven}
use Rattle.jh_drive.specs.declared.error.DriveError.{DriveError}
use Rattle.jh_drive.specs.declared.error.DriveError.TheVariants.{BadPalette, OutOfMemory, Settings}
use Rattle.jh_drive.specs.declared.error.DriveError.TheVariants.{SettingsRead}
use Rattle.jh_drive_search.specs.DriveSearch.{AreSearchSettingsOf, IsSearchBy, RefusesSearchSettings}
use Rattle.jh_drive_search.specs.declared.options.TrialOptions.{TrialOptions}
use Rattle.jh_drive_search.specs.declared.settings.SearchSettings.{SearchSettings}
use Rattle.jh_drive_shrink.specs.DriveShrink.{IsShrunkBy}
use Rattle.jh_random_faults.specs.declared.kinds.Palette.{Palette}
use Rattle.jh_settings.specs.Settings.{RefusesSettings}
use Rattle.jh_settings.specs.declared.error.SettingsError.{SettingsError}
use Rattle.jh_settings_texts.specs.ScheduleSteps.{AreStepsIn}
use Rattle.jh_arguments.specs.Accounts.{Accounts, RefusesAccountsText, WritesAccounts}
use Rattle.jh_arguments.specs.Commands.{SubcommandHasAccounts, SubcommandHasRunSettings}
use Rattle.jh_arguments.specs.Commands.{Conducts, Reduces, SubcommandIs, SubcommandIsTest, TestAsked}
use Rattle.jh_arguments.specs.Commands.{Tries}
use Rattle.jh_arguments.specs.Commands.{IsOfOptions, IsOutputOf, RefusesCommand, RefusesOptions}
use Rattle.jh_arguments.specs.Line.{IsCommandLine}
use Rattle.jh_arguments.specs.declared.answers.Refusal.{Refusal}
use Rattle.jh_arguments.specs.declared.answers.Refusal.TheVariants as Refusals
use Rattle.jh_arguments.specs.declared.commands.Command.{Command}
use Rattle.jh_arguments.specs.declared.commands.TrialQuestion.{TrialQuestion}

-- ---- what arguments ask for

-- `clap` takes the arguments, and they ask for this command, of which a judgement has the accounts that
-- are given.
abbrev pub ArgumentsAskFor : List Text → Accounts → Command → Type 0
ArgumentsAskFor arguments given command =
    (app : App) × IsCommandLine app × (fault_of app arguments ≡ [])
    × SubcommandIs given (subcommand_of app arguments) command

-- `clap` takes the arguments, and they ask this of a test of a real database.
abbrev pub ArgumentsAskForTest : List Text → TestAsked → Type 0
ArgumentsAskForTest arguments asked =
    (app : App) × IsCommandLine app × (fault_of app arguments ≡ [])
    × SubcommandIsTest (subcommand_of app arguments) asked

-- ---- by which accounts a bank is judged

-- A subcommand with its options gives these accounts: those that its text of accounts writes, and none
-- where it has no such text.
abbrev pub GivesAccounts : Option (Text × List Row) → Option (List Edn) → Type 0
GivesAccounts found (Some accounts) =
    (text : Text) × SubcommandHasAccounts found text × WritesAccounts text accounts
GivesAccounts found None = (text : Text) → SubcommandHasAccounts found text → ⊥

-- what a contract sees of the accounts that a command is given
abbrev pub accounts_seen : Accounts → Option (List Edn)
accounts_seen given = option_map (λ accounts. views accounts.now) given

-- The arguments have a text of accounts, of which none are taken for this reason.
pub record HasNoAccounts (arguments : List Text) (e : CliError) : Type 0 where
  pub app : App
  pub line : IsCommandLine app
  pub taken : fault_of app arguments ≡ []
  pub text : Text
  pub asked : SubcommandHasAccounts (subcommand_of app arguments) text
  pub why : RefusesAccountsText text e

-- ---- by which steps a page names records

-- A subcommand with its options gives these steps. Where it names a file, they are those of the schedule
-- of some settings, for no contract knows what a file holds. Where it names none, there are none.
abbrev pub GivesSteps : Option (Text × List Row) → List Edn → Type 0
GivesSteps found steps =
    ((path : Text) × SubcommandHasRunSettings found path × ((settings : List ℕ) × AreStepsIn settings steps))
    ⊎ (((path : Text) → SubcommandHasRunSettings found path → ⊥) × (steps ≡ []))

-- Settings of a schedule can't be had: the file could not be read, or what it holds is no settings.
abbrev pub IsRunSettingsError : CliError → Type 0
IsRunSettingsError failures.SettingsRead = Unit {0}
IsRunSettingsError failures.OutOfMemory = Unit {0}
IsRunSettingsError (failures.Settings error) = (settings : List ℕ) × RefusesSettings settings error
IsRunSettingsError e = ⊥

-- `clap` takes the arguments, and they ask for this command with the accounts that they give, and give
-- these steps.
pub record ArgumentsGive (arguments : List Text) (command : Command) (steps : List Edn) : Type 0 where
  pub app : App
  pub line : IsCommandLine app
  pub taken : fault_of app arguments ≡ []
  pub given : Accounts
  pub accounts : GivesAccounts (subcommand_of app arguments) (accounts_seen given)
  pub asked : SubcommandIs given (subcommand_of app arguments) command
  pub steps_given : GivesSteps (subcommand_of app arguments) steps

-- The arguments name a file for the steps of a page, of which none can be had for this reason. Accounts,
-- which are looked at before, are not refused.
pub record HasNoSteps (arguments : List Text) (e : CliError) : Type 0 where
  pub app : App
  pub line : IsCommandLine app
  pub taken : fault_of app arguments ≡ []
  pub given : Option (List Edn)
  pub accounts : GivesAccounts (subcommand_of app arguments) given
  pub path : Text
  pub asked : SubcommandHasRunSettings (subcommand_of app arguments) path
  pub why : IsRunSettingsError e

-- ---- how the program ends

-- what a command answers, and what a test does
abbrev pub of_command : Result ℕ CliError → Result ℕ Refusal
of_command (Ok status) = Ok status
of_command (Err error) = Err (Refusals.Command error)

abbrev pub of_test : Result ℕ DriveError → Result ℕ Refusal
of_test (Ok status) = Ok status
of_test (Err error) = Err (Refusals.Test error)

-- A command that the arguments ask for did its work: its options are not refused, and what was written
-- with this exit status is its output.
pub record IsCommandDone (arguments : List Text) (input before after : Option (List ℕ)) (status : ℕ)
    : Type 0 where
  pub command : Command
  pub steps : List Edn
  pub asked : ArgumentsGive arguments command steps
  pub options : (refusal : CliError) → RefusesOptions command refusal → ⊥
  pub written : WritesOutput input (IsOutputOf command steps) status before after

-- A command that the arguments ask for ended with this error: that of its options where these are
-- refused, and then the reader is left as it was; else one for which it refuses the input.
pub record IsFailed {R : Type 0} (arguments : List Text) (input : Option (List ℕ)) (old new : R)
    (e : CliError) : Type 0 where
  pub command : Command
  pub steps : List Edn
  pub asked : ArgumentsGive arguments command steps
  pub options : (refusal : CliError) → RefusesOptions command refusal → e ≡ refusal
  pub of_options : IsOfOptions command e → RefusesOptions command e × (new ≡ old)
  pub refused : OnInput input (λ bytes. RefusesCommand command steps bytes e)

-- the candidates that are tried, of these kinds of faults
abbrev pub trials_of : TrialQuestion → Palette → TrialOptions
trials_of question palette = record {
  from = question.from;
  runs = question.runs;
  faults = question.faults;
  palette = palette;
}

-- Candidates of the test that bytes set are tried, with this answer: what is left of the input that was read ahead
-- is of no use to anybody. Or the bytes are refused.
abbrev pub AreTriedTo : List ℕ → TrialOptions → (input before after : Option (List ℕ)) → Result ℕ DriveError
    → Type 0
AreTriedTo bytes options input before after result =
    ((error : DriveError) × RefusesSearchSettings bytes error × (result ≡ Err error))
    ⊎ ((settings : SearchSettings) × (left : Option (List ℕ)) × AreSearchSettingsOf bytes settings
    × IsSearchBy settings options input left before after result)

-- where kinds of faults are named, and where what is named is none of them
abbrev pub AreAskedTo : List ℕ → TrialQuestion → Option Palette → (input before after : Option (List ℕ))
    → Result ℕ DriveError → Type 0
AreAskedTo bytes question None input before after result = result ≡ Err BadPalette
AreAskedTo bytes question (Some palette) input before after result =
    AreTriedTo bytes (trials_of question palette) input before after result

-- The schedule of the test that bytes set is made small by so many tests at most, and one more with what is left,
-- with this answer. Or the bytes are refused.
abbrev pub IsReducedTo : List ℕ → ℕ → (input before after : Option (List ℕ)) → Result ℕ DriveError → Type 0
IsReducedTo bytes runs input before after result =
    ((error : DriveError) × RefusesSearchSettings bytes error × (result ≡ Err error))
    ⊎ ((settings : SearchSettings) × (left : Option (List ℕ)) × AreSearchSettingsOf bytes settings
    × IsShrunkBy settings runs input left before after result)

-- What is asked of the test that bytes set was done, with this answer.
abbrev pub IsTestDone : TestAsked → List ℕ → (input rest before after : Option (List ℕ))
    → Result ℕ DriveError → Type 0
IsTestDone (Conducts path) bytes input rest before after result = IsDriven bytes input rest before after result
IsTestDone (Tries path question) bytes input rest before after result =
    AreAskedTo bytes question question.palette input before after result
IsTestDone (Reduces path runs) bytes input rest before after result =
    IsReducedTo bytes runs input before after result

-- What the arguments ask of a test was done with what settings set, of a file that they name, and ended with
-- this exit status. What a file holds no contract knows.
pub record IsConductedTo (arguments : List Text) (input rest before after : Option (List ℕ))
    (status : ℕ) : Type 0 where
  pub asked_for : TestAsked
  pub asked : ArgumentsAskForTest arguments asked_for
  pub settings : List ℕ
  pub done : IsTestDone asked_for settings input rest before after (Ok status)

-- the file of settings could not be read
abbrev pub IsFileUnread : DriveError → Type 0
IsFileUnread SettingsRead = Unit {0}
IsFileUnread OutOfMemory = Unit {0}
IsFileUnread e = ⊥

-- What the arguments ask of a test ended with this error: the file could not be read, and then
-- reader and writer are left as they were; else it was done so with what the file held.
pub record IsUnfinished {R W : Type 0} (arguments : List Text)
    (input rest before after : Option (List ℕ)) (reader_old reader_new : R) (writer_old writer_new : W)
    (e : DriveError) : Type 0 where
  pub asked_for : TestAsked
  pub asked : ArgumentsAskForTest arguments asked_for
  pub why : (IsFileUnread e × (reader_new ≡ reader_old) × (writer_new ≡ writer_old))
      ⊎ ((settings : List ℕ) × IsTestDone asked_for settings input rest before after (Err e))
  pub streams_kept : (error : SettingsError) → e ≡ Settings error
      → (reader_new ≡ reader_old) × (writer_new ≡ writer_old)
