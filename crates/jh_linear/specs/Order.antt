-- The orders in which the operations of a register can have happened: linearizations (Herlihy and
-- Wing 1990), as Jepsen's page on its checkers means them (`linearizable`), on the model
-- `cas-register`, where a read of nil matches any value. An operation is an invocation with its
-- completion. Its number is its index in the list of operations, and the place of an invocation or
-- of a completion is the index of that in the history. Both count from 0.
use Rattle.std.specs.Prelude.{◌≡◌, ◌≢◌, ◌==◌, ◌⊎◌, ℕ, ◌<◌, ℤ, Bool, true, Option, Some, None, List}
use Rattle.std.specs.Prelude.{[], ◌∷◌, length, slice_index_or}
use Rattle.std.specs.List.{list_any, All, IsDistinct}
use Rattle.jh_linear.specs.declared.register.Outcome.TheVariants.{Done, Failed}
use Rattle.jh_linear.specs.declared.register.RegCall.{RegCall}
use Rattle.jh_linear.specs.declared.register.RegCall.TheVariants.{Read, Write, Cas}
use Rattle.jh_linear.specs.declared.register.RegOp.{RegOp}

-- How the register behaves: from one value a call may lead to the next one.
abbrev pub Allows : RegCall → Option ℤ → Option ℤ → Type 0
Allows (Read None) value next = next ≡ value
Allows (Read (Some seen)) value next = (value ≡ Some seen) × (next ≡ value)
Allows (Write new) value next = next ≡ Some new
Allows (Cas old new) value next = (value ≡ Some old) × (next ≡ Some new)

-- what stands past the end of a list of operations: one that failed
abbrev pub no_op : RegOp
no_op = record { invoked = 0; ended = None; outcome = Failed; call = Read None }

-- the operation with a number
abbrev pub op_at : List RegOp → ℕ → RegOp
op_at ops number = slice_index_or ops number no_op

-- the operation did not fail
abbrev pub IsPossible : List RegOp → ℕ → Type 0
IsPossible ops number = (op_at ops number).outcome ≢ Failed

-- the operation is known to have happened
abbrev pub IsDone : List RegOp → ℕ → Type 0
IsDone ops number = (op_at ops number).outcome ≡ Done

-- There is an end, and it is before this place.
abbrev pub EndsBefore : Option ℕ → ℕ → Type 0
EndsBefore None at = ⊥
EndsBefore (Some end) at = end < at

-- the first operation is known to have happened, and ended before the second was invoked
abbrev pub Precedes : List RegOp → ℕ → ℕ → Type 0
Precedes ops first second =
    IsDone ops first × EndsBefore (op_at ops first).ended (op_at ops second).invoked

-- whether a number stands in an order
abbrev pub has : List ℕ → ℕ → Bool
has order number = list_any (λ x. x == number) order

-- the first number stands in the order, and the second one after it
abbrev pub StandBefore : List ℕ → ℕ → ℕ → Type 0
StandBefore [] first second = ⊥
StandBefore (x ∷ order) first second =
    ((x ≡ first) × (has order second ≡ true)) ⊎ StandBefore order first second

-- each number of the order is that of an operation
abbrev pub AreThere : List RegOp → List ℕ → Type 0
AreThere ops order = All (λ number. number < length ops) order

-- no number stands in the order twice
abbrev pub HasNoneTwice : List ℕ → Type 0
HasNoneTwice order = IsDistinct ◌==◌ order

-- no operation of the order failed
abbrev pub ArePossible : List RegOp → List ℕ → Type 0
ArePossible ops order = All (IsPossible ops) order

-- each operation that is known to have happened stands in the order
abbrev pub HasAllDone : List RegOp → List ℕ → Type 0
HasAllDone ops order = (number : ℕ) → IsDone ops number → has order number ≡ true

-- Where an operation stands in the order, each one that is known to have happened and ended before
-- that one was invoked stands before it.
abbrev pub KeepsPrecedence : List RegOp → List ℕ → Type 0
KeepsPrecedence ops order =
    (first second : ℕ) → Precedes ops first second → has order second ≡ true
    → StandBefore order first second

-- The operations with these numbers, one after another, lead the register from one value to
-- another.
abbrev pub IsLegalFrom : List RegOp → Option ℤ → List ℕ → Option ℤ → Type 0
IsLegalFrom ops value [] last = last ≡ value
IsLegalFrom ops value (number ∷ order) last =
    (next : Option ℤ) × Allows (op_at ops number).call value next × IsLegalFrom ops next order last

-- An order in which some of the operations can have happened, and which leads to this value.
pub record IsPartialOrder (ops : List RegOp) (initial : Option ℤ) (order : List ℕ)
    (last : Option ℤ) : Type 0 where
  pub there : AreThere ops order
  pub distinct : HasNoneTwice order
  pub possible : ArePossible ops order
  pub precedence : KeepsPrecedence ops order
  pub runs : IsLegalFrom ops initial order last

-- An order in which all operations that are known to have happened can have happened, maybe with
-- some of unknown outcome: a linearization.
pub record IsOrder (ops : List RegOp) (initial : Option ℤ) (order : List ℕ) : Type 0 where
  pub last : Option ℤ
  pub partial : IsPartialOrder ops initial order last
  pub whole : HasAllDone ops order

-- each operation ends after its invocation
abbrev pub EndAfterInvoked : List RegOp → Type 0
EndAfterInvoked ops =
    (number end : ℕ) → (op_at ops number).ended ≡ Some end → (op_at ops number).invoked < end
