-- What `jeprun shrink` writes (this project's own): a keyword that says what is left of the
-- schedule of a run, and a line for each entry that is left, as the settings of a run have it.
use Rattle.std.specs.Prelude.{◌≡◌, ℕ, Bool, true, false, List, ◌++◌, codes, Option}
use Rattle.std.specs.Prelude.{IfSome}
use Rattle.std.specs.List.{flat_map}
use Rattle.jh_edn.specs.Print.{print}
use Rattle.jh_check.specs.declared.verdict.Verdict.{Verdict}
use Rattle.jh_simnode.specs.declared.schedule.Entry.{Entry}
use Rattle.jh_simnode.specs.Plans.{PlanValue, plan_with_schedule}
use Rattle.jh_judged_runs.specs.JudgedRuns.{IsRunVerdict}
use Rattle.jh_shrink.specs.Shrunk.{IsShrunk}
use Rattle.jh_shrink.specs.declared.shrinking.Shrunk.{Shrunk}
use Rattle.jh_shrink.specs.declared.shrinking.Shrunk.TheVariants.{Minimal, Budget, NotFailing}
use Rattle.jh_settings.specs.Settings.{AreSettingsOf}
use Rattle.jh_settings_texts.specs.DocumentWritten.{entry_value}
use Rattle.jh_settings.specs.declared.choices.Mode.{Mode}
use Rattle.jh_reports.specs.Lines.{line}

-- ---- when a run fails

-- A run fails where its history is not valid. One of unknown verdict does not fail.
abbrev pub is_failure : Verdict → Bool
is_failure Verdict.False = true
is_failure _ = false

-- whether the serial run of a plan fails, by a judge of this budget
abbrev pub IsRunFailure : PlanValue → ℕ → Bool → Type 0
IsRunFailure p budget fails =
    (verdict : Verdict) × IsRunVerdict p budget verdict × (fails ≡ is_failure verdict)

-- What is answered of a schedule: whether the run of the plan with it fails. There is no answer
-- where that run was refused, or is stuck.
abbrev pub RunAnswers : PlanValue → ℕ → List Entry → Option Bool → Type 0
RunAnswers p budget schedule answer =
    IfSome answer (IsRunFailure (plan_with_schedule p schedule) budget)

-- ---- what is written

abbrev pub shrunk_name : Shrunk → List ℕ
shrunk_name (Minimal schedule) = codes ":minimal"
shrunk_name (Budget schedule) = codes ":budget"
shrunk_name (NotFailing schedule) = codes ":not-failing"

-- the exit status: 1 where something is found, 2 where the work was not finished
abbrev pub shrunk_status : Shrunk → ℕ
shrunk_status (Minimal schedule) = 1
shrunk_status (Budget schedule) = 2
shrunk_status (NotFailing schedule) = 0

abbrev pub schedule_of : Shrunk → List Entry
schedule_of (Minimal schedule) = schedule
schedule_of (Budget schedule) = schedule
schedule_of (NotFailing schedule) = schedule

-- a line for each entry, as settings have it
abbrev pub entry_lines : List (List ℕ) → List Entry → List ℕ
entry_lines names schedule = flat_map (λ entry. line (print (entry_value names entry))) schedule

abbrev pub shrunk_lines : List (List ℕ) → Shrunk → List ℕ
shrunk_lines names shrunk = line (shrunk_name shrunk) ++ entry_lines names (schedule_of shrunk)

-- for settings, by so many runs at most
abbrev pub IsShrinkText : ℕ → PlanValue → ℕ → Shrunk → List ℕ → Type 0
IsShrinkText runs p budget shrunk output =
    IsShrunk (RunAnswers p budget) runs p.schedule shrunk
    × (output ≡ shrunk_lines p.env.names shrunk)

-- for an input, with the exit status, by so many runs at most: the plan and the budget of the judge
-- are those that it means, and its mode does not matter
abbrev pub IsShrinkTextOf : ℕ → List ℕ → ℕ → List ℕ → Type 0
IsShrinkTextOf runs input status output =
    (p : PlanValue) × (mode : Mode) × (budget : ℕ) × (shrunk : Shrunk)
    × AreSettingsOf input p mode budget
    × IsShrinkText runs p budget shrunk output × (status ≡ shrunk_status shrunk)
