-- What holds of the history of every test: it is well formed, as jepsen.history says, and no checker refuses
-- it. This project's own.
use Rattle.std.specs.Prelude.{◌≡◌, ◌≢◌, ◌⊎◌, ℕ, List, None, IsSome}
use Rattle.jh_check.specs.declared.error.CheckError.{CheckError}
use Rattle.jh_check.specs.declared.error.CheckError.TheVariants as check_errors
use Rattle.jh_checkers.specs.Findings.{RefusesChecking}
use Rattle.jh_checkers.specs.declared.finding.Judging.{Judging}
use Rattle.jh_conversation.specs.Laws.{Drivers, run}
use Rattle.jh_conversation.specs.Text.{recorded_history}
use Rattle.jh_independent.specs.Refusals.{RefusesKeys, keys_question}
use Rattle.jh_independent.specs.declared.error.KeysError.{KeysError}
use Rattle.jh_independent.specs.declared.error.KeysError.TheVariants as keys_errors
use Rattle.jh_ops.specs.Operation.{Operation}
use Rattle.jh_ops.specs.Pairing.{IsWellFormed}
use Rattle.jh_test_parts.specs.Test.{TestValue, IsFitTest}
use Rattle.jh_test_parts.specs.Workloads.{test_checker}
use Rattle.jh_test_parts.specs.declared.workload.TestWorkload.TheVariants.{ListAppend}

-- the history of a test after these lines
abbrev pub history_after : (t : TestValue) → Drivers t → List (List ℕ) → List Operation
history_after t d lines = recorded_history t (run t d lines)

-- each process does one operation at a time, and nothing after it crashed
abbrev pub HistoriesAreFormed : Type 0
HistoriesAreFormed = (t : TestValue) (d : Drivers t) (lines : List (List ℕ)) → IsWellFormed (history_after t d lines)

-- the checker of the test refuses the history only as out of memory, where its keys are not independent
abbrev pub HistoriesAreJudged : Type 0
HistoriesAreJudged =
    (t : TestValue) (d : Drivers t) (lines : List (List ℕ)) → IsFitTest t → t.keys ≡ None
    → (error : CheckError) → RefusesChecking (test_checker t.workload) (history_after t d lines) error
    → error ≡ check_errors.OutOfMemory

-- where they are, it is refused only for a thread or as out of memory; transactions are judged as one
abbrev pub KeyHistoriesAreJudged : Type 0
KeyHistoriesAreJudged =
    (t : TestValue) (d : Drivers t) (lines : List (List ℕ)) → IsFitTest t → IsSome t.keys
    → t.workload ≢ ListAppend → (judging : Judging) → judging.checker ≡ test_checker t.workload
    → (error : KeysError) → RefusesKeys (keys_question judging (history_after t d lines)) error
    → (error ≡ keys_errors.Thread) ⊎ (error ≡ keys_errors.OutOfMemory)
