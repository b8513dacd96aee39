-- What `jeprun check` writes: one line with what a checker finds in a history, or in that of each of
-- its keys, or that there were too few operations (Jepsen's checkers `set`, `counter`, `unique-ids`
-- and `linearizable`, its workload list-append, and jepsen.independent).
use Rattle.std.specs.Prelude.{◌≡◌, ℕ, List}
use Rattle.jh_ops.specs.Operation.{Operation}
use Rattle.jh_reports.specs.Judged.{IsTextBy}
use Rattle.jh_cli.specs.HistoryInput.{IsHistoryInput}
use Rattle.jh_cli.specs.Enough.{answer_where_enough, count_ok_operations}
use Rattle.jh_cli.specs.declared.check_command.CheckQuestion.{CheckQuestion}

-- What is written for a history, with the exit status.
abbrev pub IsCheckLine : CheckQuestion → List Operation → ℕ → List ℕ → Type 0
IsCheckLine question history status output =
    (found_status : ℕ) × (found : List ℕ)
    × IsTextBy question.independent question.judging history found_status found
    × ((status, output)
    ≡ answer_where_enough question.at_least
    (count_ok_operations question.judging.checker history) found_status found)

-- That for an input: the history that it is, or, of what `run` or `drive` printed, the one in it
abbrev pub IsCheckTextOf : CheckQuestion → List ℕ → ℕ → List ℕ → Type 0
IsCheckTextOf question input status output =
    (history : List Operation) × (below : List ℕ) × IsHistoryInput question.skips_unread input history below
    × IsCheckLine question history status output
