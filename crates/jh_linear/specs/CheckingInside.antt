-- What the functions that check an order, or look for a bad value, compute: proofs rest on it, and
-- no public clause names it.
-- This project's own.
use Rattle.std.specs.Prelude.{ℕ, zero, suc, ◌<◌, min, Bool, true, false, if◌then◌else◌, Option}
use Rattle.std.specs.Prelude.{Some, None, List, [], ◌∷◌, length, slice_index_or}
use Rattle.jh_linear.specs.declared.register.Outcome.{Outcome}
use Rattle.jh_linear.specs.declared.register.Outcome.TheVariants.{Done, Failed, Unsure}
use Rattle.jh_linear.specs.declared.register.RegOp.{RegOp}
use Rattle.jh_linear.specs.Order.{op_at, Precedes}

-- No operation stands behind one that was invoked after its end.
abbrev pub IsNoneLate : List RegOp → List ℕ → Type 0
IsNoneLate ops order =
    (i j : ℕ) → i < j → j < length order
    → Precedes ops (slice_index_or order j 0) (slice_index_or order i 0) → ⊥

-- whether this outcome is that of an operation that is known to have happened
abbrev pub is_outcome_done : Outcome → Bool
is_outcome_done Done = true
is_outcome_done Failed = false
is_outcome_done Unsure = false

-- whether the operation with a number is known to have happened
abbrev pub is_op_done : List RegOp → ℕ → Bool
is_op_done ops number = is_outcome_done (op_at ops number).outcome

-- the numbers, below a bound, of the operations that are known to have happened
abbrev pub done_numbers_below : List RegOp → ℕ → List ℕ
done_numbers_below ops zero = []
done_numbers_below ops (suc n) =
    if is_op_done ops n then n ∷ done_numbers_below ops n else done_numbers_below ops n

-- the lesser of two places, of which one or both may be missing
abbrev pub lesser_place : Option ℕ → Option ℕ → Option ℕ
lesser_place None other = other
lesser_place (Some one) None = Some one
lesser_place (Some one) (Some other) = Some (min one other)
