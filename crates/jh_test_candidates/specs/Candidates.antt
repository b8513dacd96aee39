-- The candidates of a search over tests of a real database (this project's own; they follow those of
-- the search over simulated runs): tests that are numbered from 0, each with the seed of a given test
-- raised by its number, and with random faults among the entries of its schedule. Each fault of a
-- candidate, also one of the test's own, has its links, nodes or bumps in the order of its text.
use Rattle.std.specs.Prelude.{ℕ, max, Bool, false, nat_lt, List, length, if◌then◌else◌}
use Rattle.std.specs.Prelude.{Option, Some, None}
use Rattle.std.specs.List.{fold, insert, position_or_len, range_with_len}
use Rattle.jh_nemesis.specs.declared.steps.Step.TheVariants.{Begin, Withdraw, WithdrawAll}
use Rattle.jh_step_texts.specs.declared.kinds.FaultKind.{FaultKind}
use Rattle.jh_test_parts.specs.Limits.{max_test_entries}
use Rattle.jh_test_parts.specs.Test.{TestValue, test_with_schedule}
use Rattle.jh_test_parts.specs.declared.parts.TestEntry.{TestEntry}
use Rattle.jh_test_parts.specs.declared.parts.When.{When}
use Rattle.jh_test_parts.specs.declared.parts.When.TheVariants.{Calls, Milliseconds}
use Rattle.jh_random_faults.specs.declared.draws.Draw.{Draw}
use Rattle.jh_random_faults.specs.declared.kinds.Palette.{Palette}
use Rattle.jh_random_faults.specs.Draws.{candidate_seed, draw_of, random_number}
use Rattle.jh_random_faults.specs.Ids.{fault_id, greater_id}
use Rattle.jh_random_faults.specs.Kinds.{drawn_kind, kinds_drawn}
use Rattle.jh_random_faults.specs.RandomFaults.{fault_drawn}
use Rattle.jh_random_faults.specs.Times.{begin_within, end_within, heal_within, heals, stays}
use Rattle.jh_test_settings_texts.specs.WritableEntries.{test_in_order}

-- ---- entries among others

-- The second is due later than the first. Of two in different units neither is: nobody knows how long
-- calls take.
abbrev pub is_due_later : When → When → Bool
is_due_later (Calls n) (Calls other) = nat_lt n other
is_due_later (Milliseconds n) (Milliseconds other) = nat_lt n other
is_due_later (Calls n) (Milliseconds other) = false
is_due_later (Milliseconds n) (Calls other) = false

-- An entry is put before the first that is due later, and behind all where there is none. One for
-- which a schedule has no room is left out.
abbrev pub test_entries_with : List TestEntry → TestEntry → List TestEntry
test_entries_with entries entry =
    if nat_lt (length entries) max_test_entries
    then insert entries (position_or_len (λ other. is_due_later entry.at other.at) entries) entry
    else entries

-- the greatest id that a step of a schedule names
abbrev pub greatest_test_id : List TestEntry → ℕ
greatest_test_id entries = fold (λ id entry. greater_id id entry.step) 0 entries

-- ---- when a fault begins, and when it is withdrawn

-- Faults begin and end by the clock where a test has a time limit, and by its calls where it has none:
-- until this moment. A limit counts as a millisecond at least.
abbrev pub faults_until_limit : Option ℕ → ℕ → When
faults_until_limit (Some limit) ops = Milliseconds (max limit 1)
faults_until_limit None ops = Calls ops

abbrev pub faults_until : TestValue → When
faults_until t = faults_until_limit t.time_limit t.ops

-- when a candidate heals, where it does
abbrev pub heal_before : When → When
heal_before (Calls n) = Calls (heal_within n)
heal_before (Milliseconds n) = Milliseconds (heal_within n)

-- when a fault begins
abbrev pub begin_before : When → Draw → When
begin_before (Calls n) d = Calls (begin_within n d)
begin_before (Milliseconds n) d = Milliseconds (begin_within n d)

-- and when it is withdrawn
abbrev pub end_before : When → Draw → When
end_before (Calls n) d = Calls (end_within n d)
end_before (Milliseconds n) d = Milliseconds (end_within n d)

-- ---- the schedule

-- with the begin of a fault of this kind, and its withdrawal
abbrev pub test_entries_with_fault : TestValue → ℕ → Draw → List TestEntry → FaultKind → List TestEntry
test_entries_with_fault t id d entries kind =
    (let begun = test_entries_with entries
    (record {
      at = begin_before (faults_until t) d;
      step = Begin id
          (fault_drawn kind (length t.start.names) d);
    }) in
    if stays d then begun
    else test_entries_with begun
    (record { at = end_before (faults_until t) d; step = Withdraw id }))

-- of the kind that is drawn, where there is one
abbrev pub test_entries_with_drawn : TestValue → ℕ → Draw → List TestEntry → Option FaultKind
    → List TestEntry
test_entries_with_drawn t id d entries None = entries
test_entries_with_drawn t id d entries (Some kind) = test_entries_with_fault t id d entries kind

-- with the fault of this index, by a candidate's seed
abbrev pub test_entries_with_random : TestValue → Palette → ℕ → List TestEntry → ℕ → List TestEntry
test_entries_with_random t palette seed entries fault =
    test_entries_with_drawn t (fault_id (greatest_test_id t.schedule) fault) (draw_of seed fault)
    entries (drawn_kind (kinds_drawn palette (length t.start.names)) (draw_of seed fault))

-- the test's own entries, with so many random faults
abbrev pub test_entries_with_faults : TestValue → Palette → ℕ → ℕ → List TestEntry
test_entries_with_faults t palette faults seed =
    fold (test_entries_with_random t palette seed) t.schedule (range_with_len 0 faults)

-- with the withdrawal of all faults, where the first random number says that the candidate heals
abbrev pub healed_test_entries : TestValue → ℕ → List TestEntry → List TestEntry
healed_test_entries t number entries =
    if heals number
    then test_entries_with entries
    (record { at = heal_before (faults_until t); step = WithdrawAll })
    else entries

abbrev pub random_test_schedule : TestValue → Palette → ℕ → ℕ → List TestEntry
random_test_schedule t palette faults seed =
    healed_test_entries t (random_number seed 0) (test_entries_with_faults t palette faults seed)

-- ---- the candidate

-- the candidate of a number, with so many random faults, and with what each fault of its schedule names
-- in order
abbrev pub test_candidate_of : TestValue → Palette → ℕ → ℕ → TestValue
test_candidate_of t palette faults number =
    (let seed = candidate_seed t.seed number in
    test_in_order (test_with_schedule t (random_test_schedule t palette faults seed) seed))
