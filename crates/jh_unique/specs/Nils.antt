-- Reads of nil, put where they were invoked: no public clause names it.
use Rattle.std.specs.Prelude.{◌≡◌, ◌⊎◌, ℕ, ◌<◌, ◌≤◌, ℤ, Option, List, true, length, slice_index_or, ◌++◌, drop}
use Rattle.jh_linear.specs.declared.register.RegOp.{RegOp}
use Rattle.jh_linear.specs.Order.{op_at, IsDone, has}
use Rattle.jh_unique.specs.Clusters.{IsPart, ReadsNil}

-- a read of nil that happened
abbrev pub IsNilRead : List RegOp → ℕ → Type 0
IsNilRead ops number = IsDone ops number × ReadsNil ops number

-- There is a read left, and no operation is left in the order, or the next one of it was invoked
-- later.
abbrev pub IsTurnOfRead : List RegOp → List ℕ → ℕ → List ℕ → ℕ → Type 0
IsTurnOfRead ops order at nils next = (next < length nils) × ((length order ≤ at)
    ⊎ ((op_at ops (slice_index_or nils next 0)).invoked
    < (op_at ops (slice_index_or order at 0)).invoked))

-- The front of an order with some reads put in, such that all in it were invoked no later than each
-- read that is left; with the rest of the order it has no operation but those of the order and the
-- first so many reads, and keeps all of these.
pub record IsMergedSoFar (ops : List RegOp) (initial : Option ℤ) (order nils : List ℕ)
    (at next : ℕ) (all : List ℕ) : Type 0 where
  pub at_low : at ≤ length order
  pub next_low : next ≤ length nils
  pub part : IsPart ops initial (all ++ drop at order)
  pub early : (number index : ℕ) → has all number ≡ true → next ≤ index → index < length nils
      → (op_at ops number).invoked ≤ (op_at ops (slice_index_or nils index 0)).invoked
  pub kept : (number : ℕ) → has order number ≡ true → has (all ++ drop at order) number ≡ true
  pub taken : (index : ℕ) → index < next
      → has (all ++ drop at order) (slice_index_or nils index 0) ≡ true
  pub only : (number : ℕ) → has (all ++ drop at order) number ≡ true
      → (has order number ≡ true) ⊎ ((index : ℕ) × (index < next)
      × (slice_index_or nils index 0 ≡ number))
