-- What `jeprun run` writes (this project's own): a line for each operation of the run's history, as
-- Jepsen writes histories, a line with the ids of the active faults, one with the environment, and
-- the line of the checker of the workload.
use Rattle.std.specs.Prelude.{◌≡◌, ℕ, List}
use Rattle.jh_nemesis.specs.State.{State}
use Rattle.jh_ops.specs.Operation.{Operation}
use Rattle.jh_checkers.specs.Findings.{IsFinding, finding_verdict}
use Rattle.jh_checkers.specs.Lines.{finding_line}
use Rattle.jh_checkers.specs.declared.finding.Finding.{Finding}
use Rattle.jh_simnode.specs.declared.events.Event.{Event}
use Rattle.jh_simnode.specs.Laws.{state_at}
use Rattle.jh_simnode.specs.Plans.{PlanValue}
use Rattle.jh_simnode.specs.Runs.{setup_of}
use Rattle.jh_workers.specs.Outcomes.{IsOutcome}
use Rattle.jh_judged_runs.specs.JudgedRuns.{IsJudgedRun, run_judging}
use Rattle.jh_settings.specs.Settings.{AreSettingsOf}
use Rattle.jh_settings.specs.declared.choices.Mode.{Mode}
use Rattle.jh_reports.specs.Lines.{line}
use Rattle.jh_laws.specs.HistoryLines.{IsTextOfHistory}
use Rattle.jh_ops.specs.HistoryWritten.{history_lines}
use Rattle.jh_reports.specs.Reports.{IsReport, verdict_status}

-- An output of a run: the lines of its history, which are a text of it, those of the faults of a state
-- and of the environment that they make, and the line of what is found; with the exit status.
abbrev pub IsRunOutput : State → List Operation → Finding → ℕ → List ℕ → Type 0
IsRunOutput last history finding status output =
    IsReport last history (line (finding_line finding)) output
    × IsTextOfHistory (history_lines history) history
    × (status ≡ verdict_status (finding_verdict finding))

-- what is written for a plan that is run serially, by a judge of this budget
abbrev pub IsSerialText : PlanValue → ℕ → ℕ → List ℕ → Type 0
IsSerialText p budget status output =
    (journal : List Event) × (history : List Operation) × (finding : Finding)
    × IsJudgedRun p budget journal history finding
    × IsRunOutput (state_at (setup_of p) journal) history finding status output

-- What is written for a plan that is run on threads. The faults are those that the journal's steps lead
-- to from the start of the plan on.
abbrev pub IsThreadsText : PlanValue → ℕ → ℕ → List ℕ → Type 0
IsThreadsText p budget status output =
    (journal : List Event) × (history : List Operation) × (finding : Finding)
    × IsOutcome p journal history
    × IsFinding (run_judging p budget) history finding
    × IsRunOutput (state_at (setup_of p) journal) history finding status output

-- what is written for a plan that is run in this mode
abbrev pub IsRunText : PlanValue → Mode → ℕ → ℕ → List ℕ → Type 0
IsRunText p Mode.Serial budget status output = IsSerialText p budget status output
IsRunText p Mode.Threads budget status output = IsThreadsText p budget status output

-- What is written for an input, with the exit status. The plan, the mode and the budget are those that
-- the input means.
abbrev pub IsRunTextOf : List ℕ → ℕ → List ℕ → Type 0
IsRunTextOf input status output =
    (p : PlanValue) × (mode : Mode) × (budget : ℕ) × AreSettingsOf input p mode budget
    × IsRunText p mode budget status output
