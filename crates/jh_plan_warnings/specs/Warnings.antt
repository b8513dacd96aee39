-- What is warned of a plan (this project's own): calls that nobody makes, though the checker judges by
-- them, and withdrawals of faults that nobody began.
use Rattle.std.specs.Prelude.{ℕ, zero, suc, Bool, true, false, ◌&&◌, ◌==◌, List, [], ◌∷◌, ◌++◌}
use Rattle.std.specs.Prelude.{length, take, slice_get, Option, Some, None, option_and_then, codes}
use Rattle.std.specs.Prelude.{if◌then◌else◌}
use Rattle.std.specs.Fmt.{decimal}
use Rattle.std.specs.List.{list_any}
use Rattle.jh_gen.specs.Suits.{never_reads}
use Rattle.jh_nemesis.specs.declared.steps.Step.{Step}
use Rattle.jh_nemesis.specs.declared.steps.Step.TheVariants.{Begin, Withdraw}
use Rattle.jh_ops.specs.declared.call.Workload.{Workload}
use Rattle.jh_plan_warnings.specs.declared.warnings.Warning.{Warning}
use Rattle.jh_plan_warnings.specs.declared.warnings.Warning.TheVariants.{NeverReads, NeverBegun}
use Rattle.jh_simnode.specs.Plans.{PlanValue}
use Rattle.jh_simnode.specs.declared.schedule.Entry.{Entry}

-- a history of the workload is judged by what its reads saw
abbrev pub has_reads : Workload → Bool
has_reads Workload.Ids = false
has_reads workload = true

-- the generator never asks for a read, and the checker judges by reads
abbrev pub of_generator : PlanValue → List Warning
of_generator plan =
    if has_reads plan.database.workload && never_reads plan.generator then NeverReads ∷ [] else []

-- a step begins a fault under this id
abbrev pub begins : ℕ → Step → Bool
begins id (Begin begun fault) = begun == id
begins id step = false

-- one of the entries does
abbrev pub is_begun : ℕ → List Entry → Bool
is_begun id entries = list_any (λ entry. begins id entry.step) entries

-- a step, behind entries that are taken before it, withdraws a fault that none of them begins
abbrev pub of_step : List Entry → Step → Option Warning
of_step before (Withdraw id) =
    if is_begun id before then None else Some (NeverBegun (length before) id)
of_step before step = None

-- the step at a place of the schedule
abbrev pub of_entry : List Entry → ℕ → Option Warning
of_entry entries place =
    option_and_then (λ entry. of_step (take place entries) entry.step) (slice_get entries place)

-- a warning, or none
abbrev pub one_or_none : Option Warning → List Warning
one_or_none None = []
one_or_none (Some warning) = warning ∷ []

-- those of the entries before a place, in order
abbrev pub of_entries_before : List Entry → ℕ → List Warning
of_entries_before entries zero = []
of_entries_before entries (suc place) =
    of_entries_before entries place ++ one_or_none (of_entry entries place)

-- all that is warned of a plan
abbrev pub warnings_of : PlanValue → List Warning
warnings_of plan =
    of_generator plan ++ of_entries_before plan.schedule (length plan.schedule)

-- what a user reads; entries count from 0
abbrev pub warning_text : Warning → List ℕ
warning_text NeverReads = codes "the generator never asks for a read, by which the history is judged"
warning_text (NeverBegun entry id) =
    codes "entry " ++ (decimal entry ++ (codes " withdraws fault " ++ (decimal id
    ++ codes ", which no entry before it begins")))
