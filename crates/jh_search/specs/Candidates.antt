-- The candidates of a search (this project's own): plans that are numbered from 0, each with the
-- seed of a given plan raised by its number, and with random faults among the entries of its
-- schedule. Each fault of a candidate, also one of the plan's own, has its links, nodes or bumps in
-- the order of its text, so that what is written of a candidate means that candidate.
use Rattle.std.specs.Prelude.{ℕ, nat_lt, List, length, Option, Some, None, if◌then◌else◌}
use Rattle.std.specs.List.{fold, insert, position_or_len, range_with_len}
use Rattle.jh_nemesis.specs.declared.steps.Step.TheVariants.{Begin, Withdraw, WithdrawAll}
use Rattle.jh_simnode.specs.declared.schedule.Entry.{Entry}
use Rattle.jh_simnode.specs.Limits.{max_entries}
use Rattle.jh_simnode.specs.Plans.{PlanValue}
use Rattle.jh_settings_texts.specs.SettingsWritten.{plan_in_order}
use Rattle.jh_step_texts.specs.declared.kinds.FaultKind.{FaultKind}
use Rattle.jh_random_faults.specs.declared.draws.Draw.{Draw}
use Rattle.jh_random_faults.specs.Draws.{candidate_seed, draw_of, random_number}
use Rattle.jh_random_faults.specs.Ids.{fault_id, greater_id}
use Rattle.jh_random_faults.specs.Kinds.{drawn_kind, kinds_drawn}
use Rattle.jh_random_faults.specs.RandomFaults.{fault_drawn}
use Rattle.jh_random_faults.specs.Times.{begin_within, end_within, heal_within, heals, stays}
use Rattle.jh_search.specs.declared.options.Options.{Options}

-- ---- entries among others

-- An entry is put before the first that is due after more calls, so that one waits for none that is
-- due later. One for which a schedule has no room is left out.
abbrev pub entries_with : List Entry → Entry → List Entry
entries_with entries entry =
    if nat_lt (length entries) max_entries
    then insert entries (position_or_len (λ other. nat_lt entry.at other.at) entries) entry
    else entries

-- the greatest id that a step of a schedule names
abbrev pub greatest_id : List Entry → ℕ
greatest_id entries = fold (λ id entry. greater_id id entry.step) 0 entries

-- ---- when a fault begins, and when it is withdrawn: within the calls of the plan

-- after how many answered calls a candidate heals, where it does
abbrev pub calls_before_heal : PlanValue → ℕ
calls_before_heal p = heal_within p.ops

-- after how many a fault begins
abbrev pub calls_before_begin : PlanValue → Draw → ℕ
calls_before_begin p d = begin_within p.ops d

-- and after how many it is withdrawn
abbrev pub calls_before_end : PlanValue → Draw → ℕ
calls_before_end p d = end_within p.ops d

-- ---- the schedule

-- with the begin of a fault of this kind, and its withdrawal
abbrev pub entries_with_fault : PlanValue → ℕ → Draw → List Entry → FaultKind → List Entry
entries_with_fault p id d entries kind =
    (let begun = entries_with entries
    (record {
      at = calls_before_begin p d;
      step = Begin id
          (fault_drawn kind (length p.env.names) d);
    }) in
    if stays d then begun
    else entries_with begun (record { at = calls_before_end p d; step = Withdraw id }))

-- of the kind that is drawn, where there is one
abbrev pub entries_with_drawn : PlanValue → ℕ → Draw → List Entry → Option FaultKind → List Entry
entries_with_drawn p id d entries None = entries
entries_with_drawn p id d entries (Some kind) = entries_with_fault p id d entries kind

-- with the fault of this index, by a candidate's seed
abbrev pub entries_with_random : PlanValue → Options → ℕ → List Entry → ℕ → List Entry
entries_with_random p options seed entries fault =
    entries_with_drawn p (fault_id (greatest_id p.schedule) fault) (draw_of seed fault) entries
    (drawn_kind (kinds_drawn options.palette (length p.env.names)) (draw_of seed fault))

-- the plan's own entries, with as many random faults as are asked for
abbrev pub entries_with_faults : PlanValue → Options → ℕ → List Entry
entries_with_faults p options seed =
    fold (entries_with_random p options seed) p.schedule (range_with_len 0 options.faults)

-- with the withdrawal of all faults, where the first random number says that the candidate heals
abbrev pub healed_entries : PlanValue → ℕ → List Entry → List Entry
healed_entries p number entries =
    if heals number
    then entries_with entries (record { at = calls_before_heal p; step = WithdrawAll })
    else entries

abbrev pub random_schedule : PlanValue → Options → ℕ → List Entry
random_schedule p options seed =
    healed_entries p (random_number seed 0) (entries_with_faults p options seed)

-- ---- the candidate

-- the plan with this seed and this schedule, all else being the same
abbrev pub candidate_plan : PlanValue → List Entry → ℕ → PlanValue
candidate_plan p schedule seed = record p { schedule = schedule; seed = seed }

-- the candidate of this number, with what each fault of its schedule names in order
abbrev pub candidate_of : PlanValue → Options → ℕ → PlanValue
candidate_of p options candidate =
    (let seed = candidate_seed p.seed candidate in
    plan_in_order (candidate_plan p (random_schedule p options seed) seed))
