-- What is written of a run or a test behind its end: its history, what is left of the faults, and
-- what is found (this project's own; histories are written as Jepsen writes them). `drive` writes
-- the same in two parts, so that the first is there where judging fails.
use Rattle.std.specs.Prelude.{◌≡◌, ℕ, List, ◌++◌}
use Rattle.jh_check.specs.declared.verdict.Verdict.{Verdict}
use Rattle.jh_env.specs.Overlay.{EnvValue}
use Rattle.jh_nemesis.specs.State.{State}
use Rattle.jh_ops.specs.Operation.{Operation}
use Rattle.jh_ops.specs.HistoryWritten.{history_lines}
use Rattle.jh_reports.specs.Lines.{IsEnvOf, active_line, environment_line}

-- A line for each operation of a history, a line with the ids of the active faults of a state, one
-- with the environment that they make, and behind them the last line, which says what was found.
abbrev pub IsReport : State → List Operation → (last_line output : List ℕ) → Type 0
IsReport state history last_line output =
    (env : EnvValue) × IsEnvOf state env
    × (output ≡ history_lines history
    ++ (active_line state.active ++ (environment_line env ++ last_line)))

-- the exit status of a verdict
abbrev pub verdict_status : Verdict → ℕ
verdict_status Verdict.True = 0
verdict_status Verdict.False = 1
verdict_status Verdict.Unknown = 2
