-- Why `jeprun timeline` refuses an input (this project's own): what is no text of values, no
-- history, or a history that the checker of the workload cannot judge. Each is looked at only where
-- all before it is right.
use Rattle.std.specs.Prelude.{◌≡◌, ◌≢◌, ℕ, Bool, true, false, List, Option, Some, None}
use Rattle.jh_histories.specs.declared.error.ReadHistoryError.TheVariants as reading
use Rattle.jh_independent.specs.Histories.{RefusesKeySplit}
use Rattle.jh_independent.specs.Refusals.{RefusesKeys, keys_question}
use Rattle.jh_independent.specs.declared.error.KeysError.{KeysError}
use Rattle.jh_independent.specs.declared.error.KeysError.TheVariants as KeysErrors
use Rattle.jh_checkers.specs.declared.finding.Judging.{Judging}
use Rattle.jh_edn.specs.Edn.{Edn}
use Rattle.jh_ops.specs.Operation.{Operation}
use Rattle.jh_cli.specs.HistoryInput.{IsHistoryInput, RefusesHistoryInput}
use Rattle.jh_cli.specs.CheckRefusals.{RefusesWhole}
use Rattle.jh_cli.specs.Status.{IsInputError, IsHistoryError, keys_error}
use Rattle.jh_cli.specs.JudgingOptions.{RefusesJudgingOptions}
use Rattle.jh_cli.specs.TimelineText.{IsTimelineTextOf}
use Rattle.jh_cli.specs.declared.error.CliError.{CliError}
use Rattle.jh_cli.specs.declared.error.CliError.TheVariants.{Input, History, Misplaced}
use Rattle.jh_cli.specs.declared.error.CliError.TheVariants.{Missing, Read, Write}
use Rattle.jh_cli.specs.declared.error.CliError.TheVariants.{OutOfMemory}
use Rattle.jh_cli.specs.declared.timeline_command.TimelineQuestion.{TimelineQuestion}

-- why the keys of a history are not judged; they are judged on one thread, which does not fail
abbrev pub RefusesKeysBy : Judging → List Operation → CliError → Type 0
RefusesKeysBy judging history e =
    (error : KeysError) × RefusesKeys (keys_question judging history) error
    × (error ≢ KeysErrors.Thread) × (e ≡ keys_error error)

-- why a history is not split by key
abbrev pub RefusesSplitting : List Operation → CliError → Type 0
RefusesSplitting history e =
    (error : KeysError) × RefusesKeySplit history error × (e ≡ keys_error error)

-- Why a history is refused, if it is shown by keys: that it is not split, or not judged. One that
-- is shown as one is refused only where it is judged.
abbrev pub RefusesFinding : Bool → Option Judging → List Operation → CliError → Type 0
RefusesFinding true None history e = RefusesSplitting history e
RefusesFinding true (Some judging) history e = RefusesKeysBy judging history e
RefusesFinding false None history e = ⊥
RefusesFinding false (Some judging) history e = RefusesWhole judging.checker history e

-- the same; memory may run out with any
abbrev pub RefusesShowing : Bool → Option Judging → List Operation → CliError → Type 0
RefusesShowing independent judging history OutOfMemory = Unit {0}
RefusesShowing independent judging history e = RefusesFinding independent judging history e

-- why no page is made of a history
abbrev pub RefusesPage : TimelineQuestion → List Operation → CliError → Type 0
RefusesPage question history e = RefusesShowing question.independent question.judging history e

-- Why an input is refused: where its text is wrong, for the first error in it. A failed read and out of
-- memory may come with any input; a failed write comes only where there is something to write.
abbrev pub RefusesTimeline : TimelineQuestion → List Edn → List ℕ → CliError → Type 0
RefusesTimeline question steps input (Misplaced option) =
    RefusesJudgingOptions question.judging (Misplaced option)
RefusesTimeline question steps input (Missing option) =
    RefusesJudgingOptions question.judging (Missing option)
RefusesTimeline question steps input (Input error) =
    IsInputError error × RefusesHistoryInput question.skips_unread input (reading.Text error)
RefusesTimeline question steps input (History error) =
    IsHistoryError error × RefusesHistoryInput question.skips_unread input (reading.History error)
RefusesTimeline question steps input Read = Unit {0}
RefusesTimeline question steps input Write =
    (status : ℕ) × (output : List ℕ) × IsTimelineTextOf question steps input status output
RefusesTimeline question steps input OutOfMemory = Unit {0}
RefusesTimeline question steps input e =
    (history : List Operation) × (below : List ℕ) × IsHistoryInput question.skips_unread input history below
    × RefusesFinding question.independent question.judging history e
