-- Why `jeprun check` refuses an input (this project's own): what is no text of values, no history,
-- or a history that the checker cannot judge. Each is looked at only where all before it is right.
use Rattle.std.specs.Prelude.{◌≡◌, ◌≢◌, ℕ, Bool, true, false, List, Some}
use Rattle.jh_histories.specs.declared.error.ReadHistoryError.TheVariants as reading
use Rattle.jh_ops.specs.Operation.{Operation}
use Rattle.jh_check.specs.declared.error.CheckError.{CheckError}
use Rattle.jh_independent.specs.Refusals.{RefusesKeys, keys_question}
use Rattle.jh_independent.specs.declared.error.KeysError.{KeysError}
use Rattle.jh_independent.specs.declared.error.KeysError.TheVariants as KeysErrors
use Rattle.jh_checkers.specs.declared.checker.Checker.{Checker}
use Rattle.jh_checkers.specs.declared.finding.Judging.{Judging}
use Rattle.jh_reports.specs.Judged.{RefusesLine}
use Rattle.jh_cli.specs.HistoryInput.{IsHistoryInput, RefusesHistoryInput}
use Rattle.jh_cli.specs.CheckText.{IsCheckTextOf}
use Rattle.jh_cli.specs.JudgingOptions.{RefusesJudgingOptions}
use Rattle.jh_cli.specs.Status.{check_error, keys_error, IsInputError, IsHistoryError}
use Rattle.jh_cli.specs.declared.check_command.CheckQuestion.{CheckQuestion}
use Rattle.jh_cli.specs.declared.error.CliError.{CliError}
use Rattle.jh_cli.specs.declared.error.CliError.TheVariants.{Input, History, Misplaced}
use Rattle.jh_cli.specs.declared.error.CliError.TheVariants.{Missing, Read, Write}
use Rattle.jh_cli.specs.declared.error.CliError.TheVariants.{OutOfMemory}

-- a history is not judged as one
abbrev pub RefusesWhole : Checker → List Operation → CliError → Type 0
RefusesWhole checker history e =
    (error : CheckError) × RefusesLine checker history error × (e ≡ check_error error)

-- Why a history is refused, judged by keys on so many threads: which of several errors of threads
-- and memory it is depends on the threads. With one thread none is asked for.
abbrev pub RefusesByKeys : Judging → ℕ → List Operation → CliError → Type 0
RefusesByKeys judging threads history e =
    (error : KeysError) × RefusesKeys (keys_question judging history) error
    × (error ≡ KeysErrors.Thread → threads ≢ 1) × (e ≡ keys_error error)

-- the same, by keys or as one
abbrev pub RefusesBy : Bool → CheckQuestion → List Operation → CliError → Type 0
RefusesBy true question history e = RefusesByKeys question.judging question.threads history e
RefusesBy false question history e = RefusesWhole question.judging.checker history e

-- why a history is not judged; memory may run out with any
abbrev pub RefusesJudging : CheckQuestion → List Operation → CliError → Type 0
RefusesJudging question history OutOfMemory = Unit {0}
RefusesJudging question history e =
    RefusesBy question.independent question history e

-- Why an input is refused: where its text is wrong, for the first error in it. A failed read and out of
-- memory may come with any input; a failed write comes only where there is something to write.
abbrev pub RefusesCheck : CheckQuestion → List ℕ → CliError → Type 0
RefusesCheck question input (Misplaced option) =
    RefusesJudgingOptions (Some question.judging) (Misplaced option)
RefusesCheck question input (Missing option) =
    RefusesJudgingOptions (Some question.judging) (Missing option)
RefusesCheck question input (Input error) =
    IsInputError error × RefusesHistoryInput question.skips_unread input (reading.Text error)
RefusesCheck question input (History error) =
    IsHistoryError error × RefusesHistoryInput question.skips_unread input (reading.History error)
RefusesCheck question input Read = Unit {0}
RefusesCheck question input Write =
    (status : ℕ) × (output : List ℕ) × IsCheckTextOf question input status output
RefusesCheck question input OutOfMemory = Unit {0}
RefusesCheck question input e =
    (history : List Operation) × (below : List ℕ) × IsHistoryInput question.skips_unread input history below
    × RefusesBy question.independent question history e
