-- What the checker of a queue keeps on its way: what goes in and what comes out, in order, and the
-- first dequeue so far that finds none. This project's own.
use Rattle.std.specs.Prelude.{◌≡◌, ℕ, ◌<◌, nat_le, Bool, true, false, if◌then◌else◌, List, map}
use Rattle.std.specs.Prelude.{All, Contains, Option, Some, None, MatchOption, IsSorted}
use Rattle.std.specs.Ordering.{nat_cmp, ordering_then}
use Rattle.std.specs.declared.cmp.Ordering.{Ordering}
use Rattle.jh_edn.specs.Edn.{Edn}
use Rattle.jh_edn.specs.Order.{edn_cmp}
use Rattle.jh_edn.specs.View.{view}
use Rattle.jh_queue.specs.Queue.{Passage}
use Rattle.jh_queue.specs.declared.passages.ValueAt.{ValueAt}

-- ---- what a contract sees

abbrev pub passage : ValueAt → Passage
passage held = record { value = view held.value; place = held.place }

abbrev pub passages : List ValueAt → List Passage
passages held = map passage held

-- ---- in order

-- by value, and those of one value by place
abbrev pub cmp_to : Edn → ℕ → Passage → Ordering
cmp_to x place passage = ordering_then (edn_cmp passage.value x) (nat_cmp passage.place place)

abbrev pub passage_cmp : Passage → Passage → Ordering
passage_cmp a b = cmp_to b.value b.place a

abbrev pub ArePassagesInOrder : List ValueAt → Type 0
ArePassagesInOrder held = IsSorted (λ a b. passage_cmp (passage a) (passage b)) held

-- ---- the first that finds none

-- the place of the first of the dequeues that has none, where there is one
abbrev pub IsFirstWithNone : (Passage → Bool) → List Passage → Option ℕ → Type 0
IsFirstWithNone none outs first =
    MatchOption first (All (λ out. none out ≡ false) outs)
    (λ place. (out : Passage) × Contains outs out × (out.place ≡ place) × (none out ≡ true)
    × All (λ other. other.place < place → none other ≡ false) outs)

-- the earlier of the first so far and one more, if that has none
abbrev pub first_with : Option ℕ → Bool → ℕ → Option ℕ
first_with first false place = first
first_with None true place = Some place
first_with (Some known) true place = if nat_le known place then Some known else Some place
