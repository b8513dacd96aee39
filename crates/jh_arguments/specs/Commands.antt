-- Which arguments ask for which command, what it writes, and why its input is refused (this
-- project's own).
use Rattle.std.specs.Prelude.{◌≡◌, ◌⊎◌, ◌<◌, ◌≤◌, ◌+◌, ◌^◌, ℕ, ℤ, Bool, true, false, List, Option, Some}
use Rattle.std.specs.Prelude.{None, IfSome, codes, option_and_then, FitsSigned}
use mir.Syntax.{w64}
use Rattle.std.specs.Str.Parse.{IsNumeral, digits_value, signed_digits_value, without_leading_plus}
use Rattle.std.specs.Str.Parse.{without_leading_sign}
use Rattle.clap.specs.Words.{Row, Text, first_of, one_of}
use Rattle.jh_edn.specs.Edn.{Edn}
use Rattle.jh_cli.specs.EnvText.{IsEnvTextOf}
use Rattle.jh_cli.specs.CheckText.{IsCheckTextOf}
use Rattle.jh_cli.specs.JudgingOptions.{IsOptionError, RefusesJudgingOptions}
use Rattle.jh_cli.specs.RunText.{IsRunTextOf}
use Rattle.jh_cli.specs.ShrinkText.{IsShrinkTextOf}
use Rattle.jh_cli.specs.SearchText.{IsSearchTextOf}
use Rattle.jh_cli.specs.TimelineText.{IsTimelineTextOf}
use Rattle.jh_cli.specs.PlotText.{IsPlotTextOf}
use Rattle.jh_cli.specs.EnvRefusals.{RefusesEnv}
use Rattle.jh_cli.specs.CheckRefusals.{RefusesCheck}
use Rattle.jh_cli.specs.RunRefusals.{RefusesRun}
use Rattle.jh_cli.specs.ShrinkRefusals.{RefusesShrinking}
use Rattle.jh_cli.specs.SearchRefusals.{RefusesSearch}
use Rattle.jh_cli.specs.TimelineRefusals.{RefusesTimeline}
use Rattle.jh_cli.specs.PlotRefusals.{RefusesPlot}
use Rattle.jh_cli.specs.declared.error.CliError.{CliError}
use Rattle.jh_cli.specs.declared.error.CliError.TheVariants.{BadPalette}
use Rattle.jh_cli.specs.declared.check_command.CheckQuestion.{CheckQuestion}
use Rattle.jh_cli.specs.declared.search_command.SearchQuestion.{SearchQuestion}
use Rattle.jh_cli.specs.declared.search_command.Show.{Show}
use Rattle.jh_cli.specs.declared.timeline_command.TimelineQuestion.{TimelineQuestion}
use Rattle.jh_arguments.specs.declared.commands.TestQuestion.{TestQuestion}
use Rattle.jh_arguments.specs.declared.commands.TestQuestion.TheVariants.{Conduct, Reduce, Try}
use Rattle.jh_arguments.specs.declared.commands.TrialQuestion.{TrialQuestion}
use Rattle.jh_arguments.specs.declared.commands.Command.{Command}
use Rattle.jh_arguments.specs.declared.commands.Command.TheVariants.{Env, Check, Run, Shrink}
use Rattle.jh_arguments.specs.declared.commands.Command.TheVariants.{Search, Timeline, Plot}
use Rattle.jh_checkers.specs.Models.{model_named}
use Rattle.jh_arguments.specs.Accounts.{Accounts}
use Rattle.jh_arguments.specs.Limits.{max_candidates, max_faults, max_spread_ms}
use Rattle.jh_tasks.specs.Threads.{IsThreadCount, max_threads}
use Rattle.jh_arguments.specs.Palettes.{palette_named}
use Rattle.jh_checkers.specs.Checkers.{checker_name}
use Rattle.jh_checkers.specs.declared.finding.Judging.{Judging}

-- The ranges here are those of the numbers that a command has. The ranges within which `clap` takes the
-- text of an option stand in Line.antt, by limits of the same names; that of a budget stands there alone.
-- By clause `asked` of `parse`, arguments which `clap` takes ask for a command with such numbers.

-- the text writes a number of `i64`
abbrev pub WritesSigned : Text → Type 0
WritesSigned text =
    IsNumeral 10 (without_leading_sign text) × FitsSigned w64 (signed_digits_value 10 text)

-- the text writes a number of `u64`
abbrev pub WritesUnsigned : Text → Type 0
WritesUnsigned text =
    IsNumeral 10 (without_leading_plus text)
    × (digits_value 10 (without_leading_plus text) < 2 ^ 64)

-- the signed number that an option gives, if it is there
abbrev pub IsGivenSigned : Option Text → Option ℤ → Type 0
IsGivenSigned None number = number ≡ None
IsGivenSigned (Some text) (Some number) =
    WritesSigned text × (number ≡ signed_digits_value 10 text)
IsGivenSigned (Some text) None = WritesSigned text → ⊥

-- the number that an option gives
abbrev pub IsNumber : Option Text → ℕ → Type 0
IsNumber None number = ⊥
IsNumber (Some text) number =
    WritesUnsigned text × (number ≡ digits_value 10 (without_leading_plus text))

-- the number from the least to the most that an option gives
abbrev pub IsNumberWithin : ℕ → ℕ → Option Text → ℕ → Type 0
IsNumberWithin least most text number =
    IsNumber text number × (least ≤ number) × (number ≤ most)

-- how many threads an option gives
abbrev pub IsThreads : Option Text → ℕ → Type 0
IsThreads text threads = IsNumberWithin 1 max_threads text threads

-- whether a flag is there, which `clap` gives the text of yes or no
abbrev pub IsFlag : Option Text → Bool → Type 0
IsFlag None given = given ≡ false
IsFlag (Some text) given =
    (text ≡ codes "true" → given ≡ true) × (text ≡ codes "false" → given ≡ false)

-- the number that an option gives, if it is there: an index, or how many at least
abbrev pub IsGivenNumber : Option Text → Option ℕ → Type 0
IsGivenNumber None number = number ≡ None
IsGivenNumber (Some text) (Some number) = IsNumber (Some text) number
IsGivenNumber (Some text) None = WritesUnsigned text → ⊥

-- a history is judged so, by the checker of the workload that is named, and with the accounts that are given
pub record IsJudgingBy (given : Accounts) (options : List Row) (judging : Judging) : Type 0 where
  pub workload : first_of (codes "workload") options ≡ Some (checker_name judging.checker)
  pub initial : IsGivenSigned (one_of (codes "initial") options) judging.initial
  pub model : judging.model ≡ option_and_then model_named (first_of (codes "model") options)
  pub accounts : judging.accounts ≡ given
  pub total : IsGivenSigned (one_of (codes "total") options) judging.total
  pub negative_balances :
      IsFlag (one_of (codes "negative-balances") options) judging.negative_balances
  pub linearizable : IsFlag (one_of (codes "linearizable") options) judging.linearizable
  pub locked : IsFlag (one_of (codes "locked") options) judging.locked
  pub budget : IsNumber (one_of (codes "budget") options) judging.budget

-- the options of `check` ask this
pub record AsksCheck (given : Accounts) (options : List Row) (question : CheckQuestion)
    : Type 0 where
  pub judging : IsJudgingBy given options question.judging
  pub explain : IsFlag (one_of (codes "explain") options) question.judging.explain
  pub independent : IsFlag (one_of (codes "independent") options) question.independent
  pub threads : IsThreads (one_of (codes "threads") options) question.threads
  pub at_least : IsGivenNumber (one_of (codes "at-least") options) question.at_least
  pub skips_unread : IsFlag (one_of (codes "skip-unread") options) question.skips_unread

-- what the history of a page is judged by, where it is; a no is explained
abbrev pub IsJudging : Accounts → List Row → Option Judging → Type 0
IsJudging given options None = first_of (codes "workload") options ≡ None
IsJudging given options (Some judging) =
    IsJudgingBy given options judging × (judging.explain ≡ true)

-- the options of `timeline` ask this
pub record AsksTimeline (given : Accounts) (options : List Row) (question : TimelineQuestion)
    : Type 0 where
  pub judging : IsJudging given options question.judging
  pub independent : IsFlag (one_of (codes "independent") options) question.independent
  pub from : IsGivenNumber (one_of (codes "from") options) question.choice.from
  pub to : IsGivenNumber (one_of (codes "to") options) question.choice.to
  pub skips_unread : IsFlag (one_of (codes "skip-unread") options) question.skips_unread

-- the options of `plot` ask that keys which can't be read are left out, or do not
abbrev pub AsksPlot : List Row → Bool → Type 0
AsksPlot options skips_unread = IsFlag (one_of (codes "skip-unread") options) skips_unread

-- the number from the least to the most that an option gives, if it is there
abbrev pub IsGivenWithin : ℕ → ℕ → Option Text → Option ℕ → Type 0
IsGivenWithin least most None number = number ≡ None
IsGivenWithin least most (Some text) (Some number) =
    IsNumberWithin least most (Some text) number
IsGivenWithin least most (Some text) None =
    (number : ℕ) → IsNumberWithin least most (Some text) number → ⊥

-- the candidate that is to be shown, if options name one; without one a time means nothing
abbrev pub IsShow : List Row → Option Show → Type 0
IsShow options None = IsGivenWithin 0 max_candidates (one_of (codes "show") options) None
IsShow options (Some show) =
    IsNumberWithin 0 max_candidates (one_of (codes "show") options) show.number
    × IsGivenWithin 1 max_spread_ms (one_of (codes "ms") options) show.milliseconds

-- the options of `search` ask this
pub record AsksSearch (options : List Row) (question : SearchQuestion) : Type 0 where
  pub from : IsNumberWithin 0 max_candidates (one_of (codes "from") options) question.from
  pub runs : IsNumberWithin 1 max_candidates (one_of (codes "runs") options) question.runs
  pub faults : IsNumberWithin 0 max_faults (one_of (codes "faults") options) question.faults
  pub palette : question.palette
      ≡ option_and_then palette_named (first_of (codes "palette") options)
  pub threads : IsGivenWithin 1 max_threads (one_of (codes "threads") options) question.threads
  pub show : IsShow options question.show

-- the options of `search` ask that these candidates are tried
pub record AsksTrials (options : List Row) (question : TrialQuestion) : Type 0 where
  pub from : IsNumberWithin 0 max_candidates (one_of (codes "from") options) question.from
  pub runs : IsNumberWithin 1 max_candidates (one_of (codes "runs") options) question.runs
  pub faults : IsNumberWithin 0 max_faults (one_of (codes "faults") options) question.faults
  pub palette : question.palette
      ≡ option_and_then palette_named (first_of (codes "palette") options)

-- A subcommand of this name has this text for an option.
abbrev pub SubcommandHas : Text → Text → Option (Text × List Row) → Text → Type 0
SubcommandHas name option None text = ⊥
SubcommandHas name option (Some found) text =
    (found.0 ≡ name) × (first_of option found.1 ≡ Some text)

-- What may be asked of a test of a real database, whose settings are in this file: that it is conducted, that
-- these candidates of it are tried, or that its schedule is made small by so many tests at most, and one more
-- with what is left.
pub data TestAsked : Type 0 where
  Conducts : Text → TestAsked
  Tries : Text → TrialQuestion → TestAsked
  Reduces : Text → ℕ → TestAsked

-- the same of what the program holds
abbrev pub test_asked : TestQuestion → TestAsked
test_asked (Conduct path) = Conducts path.now
test_asked (Try path candidates) = Tries path.now candidates
test_asked (Reduce path runs) = Reduces path.now runs

-- A subcommand with its options asks for these candidates.
abbrev pub SubcommandAsksTrials : Option (Text × List Row) → TrialQuestion → Type 0
SubcommandAsksTrials None question = ⊥
SubcommandAsksTrials (Some found) question = AsksTrials found.1 question

-- A subcommand with its options asks for so many tests at most, and one more with what is left.
abbrev pub SubcommandHasBudget : Option (Text × List Row) → ℕ → Type 0
SubcommandHasBudget None runs = ⊥
SubcommandHasBudget (Some found) runs = IsNumber (one_of (codes "budget") found.1) runs

-- A subcommand with its options asks this of a test.
abbrev pub SubcommandIsTest : Option (Text × List Row) → TestAsked → Type 0
SubcommandIsTest found (Conducts path) = SubcommandHas (codes "drive") (codes "settings") found path
SubcommandIsTest found (Tries path question) =
    SubcommandHas (codes "search") (codes "drive") found path × SubcommandAsksTrials found question
SubcommandIsTest found (Reduces path runs) =
    SubcommandHas (codes "shrink") (codes "drive") found path × SubcommandHasBudget found runs

-- each candidate has a number
abbrev pub HasNumbers : TestQuestion → Type 0
HasNumbers (Conduct path) = Unit {0}
HasNumbers (Try path candidates) = candidates.from + candidates.runs < 2 ^ 64
HasNumbers (Reduce path runs) = Unit {0}

-- A subcommand with its options asks for a page that names steps by the settings in this file.
abbrev pub SubcommandHasRunSettings : Option (Text × List Row) → Text → Type 0
SubcommandHasRunSettings found path = SubcommandHas (codes "timeline") (codes "settings") found path

-- A subcommand that may judge a history has this text of accounts among its options.
abbrev pub SubcommandHasAccounts : Option (Text × List Row) → Text → Type 0
SubcommandHasAccounts found text =
    SubcommandHas (codes "check") (codes "accounts") found text
    ⊎ SubcommandHas (codes "timeline") (codes "accounts") found text

-- A subcommand with its options asks for a command, of which a judgement has the accounts that are given.
abbrev pub SubcommandIs : Accounts → Option (Text × List Row) → Command → Type 0
SubcommandIs given None command = ⊥
SubcommandIs given (Some found) Env = found.0 ≡ codes "env"
SubcommandIs given (Some found) (Check question) =
    (found.0 ≡ codes "check") × AsksCheck given found.1 question
SubcommandIs given (Some found) Run = found.0 ≡ codes "run"
SubcommandIs given (Some found) (Shrink runs) =
    (found.0 ≡ codes "shrink") × (first_of (codes "drive") found.1 ≡ None)
    × IsNumber (one_of (codes "budget") found.1) runs
SubcommandIs given (Some found) (Search question) =
    (found.0 ≡ codes "search") × (first_of (codes "drive") found.1 ≡ None) × AsksSearch found.1 question
SubcommandIs given (Some found) (Timeline question) =
    (found.0 ≡ codes "timeline") × AsksTimeline given found.1 question
SubcommandIs given (Some found) (Plot skips_unread) =
    (found.0 ≡ codes "plot") × AsksPlot found.1 skips_unread

-- A subcommand with its options asks to be told where and why an input is refused, or does not.
abbrev pub SubcommandIsVerbose : Option (Text × List Row) → Bool → Type 0
SubcommandIsVerbose None verbose = verbose ≡ false
SubcommandIsVerbose (Some found) verbose = IsFlag (one_of (codes "verbose") found.1) verbose

-- A subcommand with its options asks for a command, whichever accounts it is given, or for a test.
abbrev pub SubcommandIsAny : Option (Text × List Row) → Type 0
SubcommandIsAny found =
    ((given : Accounts) → (command : Command) × SubcommandIs given found command)
    ⊎ ((asked : TestAsked) × SubcommandIsTest found asked)

-- ---- what a command does

-- its number of threads is one of those that there may be, and each candidate has a number
abbrev pub HasNumbersInRange : Command → Type 0
HasNumbersInRange (Check question) = IsThreadCount question.threads
HasNumbersInRange (Search question) =
    (question.from + question.runs < 2 ^ 64)
    × IfSome question.threads (λ threads. IsThreadCount threads)
HasNumbersInRange _ = Unit {0}

-- what it writes for an input, with the exit status, where a page names steps by these
abbrev pub IsOutputOf : Command → List Edn → List ℕ → ℕ → List ℕ → Type 0
IsOutputOf Env steps input status output = IsEnvTextOf input status output
IsOutputOf (Check question) steps input status output = IsCheckTextOf question input status output
IsOutputOf Run steps input status output = IsRunTextOf input status output
IsOutputOf (Shrink runs) steps input status output = IsShrinkTextOf runs input status output
IsOutputOf (Search question) steps input status output = IsSearchTextOf question input status output
IsOutputOf (Timeline question) steps input status output =
    IsTimelineTextOf question steps input status output
IsOutputOf (Plot skips_unread) steps input status output =
    IsPlotTextOf skips_unread input status output

-- The command may end with this error for its options alone.
abbrev pub IsOfOptions : Command → CliError → Type 0
IsOfOptions (Check question) e = IsOptionError e
IsOfOptions (Timeline question) e = IsOptionError e
IsOfOptions (Search question) BadPalette = Unit {0}
IsOfOptions command e = ⊥

-- Its options do not go with its checker, do not suffice for it, or name no kinds of faults, and this
-- says so.
abbrev pub RefusesOptions : Command → CliError → Type 0
RefusesOptions (Check question) e = RefusesJudgingOptions (Some question.judging) e
RefusesOptions (Timeline question) e = RefusesJudgingOptions question.judging e
RefusesOptions (Search question) BadPalette = question.palette ≡ None
RefusesOptions command e = ⊥

-- why it refuses an input, or does not do its work
abbrev pub RefusesCommand : Command → List Edn → List ℕ → CliError → Type 0
RefusesCommand Env steps input e = RefusesEnv input e
RefusesCommand (Check question) steps input e = RefusesCheck question input e
RefusesCommand Run steps input e = RefusesRun input e
RefusesCommand (Shrink runs) steps input e = RefusesShrinking runs input e
RefusesCommand (Search question) steps input e = RefusesSearch question input e
RefusesCommand (Timeline question) steps input e = RefusesTimeline question steps input e
RefusesCommand (Plot skips_unread) steps input e = RefusesPlot skips_unread input e
