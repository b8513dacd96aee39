-- What the history of a run is judged by, and what comes of the serial run of a plan (this project's
-- own).
use Rattle.std.specs.Prelude.{◌≡◌, ℕ, List}
use Rattle.jh_ops.specs.Operation.{Operation}
use Rattle.jh_check.specs.declared.verdict.Verdict.{Verdict}
use Rattle.jh_checkers.specs.Checkers.{checker_of}
use Rattle.jh_checkers.specs.Findings.{IsFinding, finding_verdict, judging_by}
use Rattle.jh_checkers.specs.declared.finding.Finding.{Finding}
use Rattle.jh_checkers.specs.declared.finding.Judging.{Judging}
use Rattle.jh_ops.specs.HistoryWritten.{history_lines}
use Rattle.jh_laws.specs.HistoryLines.{IsTextOfHistory}
use Rattle.jh_simnode.specs.Plans.{PlanValue}
use Rattle.jh_simnode.specs.Runs.{IsSerialRun}
use Rattle.jh_simnode.specs.declared.events.Event.{Event}

-- By the checker of the plan's workload, from what a register holds at first. A no is not explained,
-- and options of other checkers are not used, since no cluster runs their workloads.
abbrev pub run_judging : PlanValue → ℕ → Judging
run_judging p budget =
    record (judging_by (checker_of p.database.workload) budget) { initial = p.database.initial }

-- The serial run of the plan has this journal and this history, whose lines are a text of it, and in
-- which, by a judge of this budget, this is found.
pub record IsJudgedRun (p : PlanValue) (budget : ℕ) (journal : List Event)
    (history : List Operation) (finding : Finding) : Type 0 where
  pub run : IsSerialRun p journal history
  pub text : IsTextOfHistory (history_lines history) history
  pub found : IsFinding (run_judging p budget) history finding

-- this is the verdict on the serial run of the plan, by a judge of this budget
abbrev pub IsRunVerdict : PlanValue → ℕ → Verdict → Type 0
IsRunVerdict p budget verdict =
    (journal : List Event) × (history : List Operation) × (finding : Finding)
    × IsJudgedRun p budget journal history finding × (verdict ≡ finding_verdict finding)
