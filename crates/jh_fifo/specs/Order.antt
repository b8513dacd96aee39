-- The orders in which the operations of a queue can have happened: linearizations (Herlihy and Wing
-- 1990) on a first-in-first-out queue that is empty at first. An operation is named by its place in
-- a list of operations, from 0.
use Rattle.std.specs.Prelude.{◌≡◌, ◌≢◌, ◌==◌, ◌⊎◌, ℕ, ◌<◌, Bool, true, Option, Some, None, List}
use Rattle.std.specs.Prelude.{[], ◌∷◌, ◌++◌, length, slice_index_or}
use Rattle.std.specs.List.{list_any, All, IsDistinct}
use Rattle.jh_fifo.specs.declared.operations.FifoCall.{FifoCall}
use Rattle.jh_fifo.specs.declared.operations.FifoCall.TheVariants.{Enqueue, Dequeue, Empty}
use Rattle.jh_fifo.specs.declared.operations.FifoOp.{FifoOp}

-- How the queue behaves: from what it holds, the front first, a call leads to what it holds next.
abbrev pub QueueAllows : FifoCall → List ℕ → List ℕ → Type 0
QueueAllows (Enqueue value) queue next = next ≡ queue ++ value ∷ []
QueueAllows (Dequeue value) queue next = queue ≡ value ∷ next
QueueAllows Empty queue next = (queue ≡ []) × (next ≡ [])

-- what stands past the end of a list of operations: nothing that is known to have happened
abbrev pub no_fifo_op : FifoOp
no_fifo_op = record { invoked = 0; ended = None; call = Empty }

-- the operation at a place
abbrev pub fifo_op_at : List FifoOp → ℕ → FifoOp
fifo_op_at ops place = slice_index_or ops place no_fifo_op

-- the operation is known to have happened
abbrev pub IsKnownDone : List FifoOp → ℕ → Type 0
IsKnownDone ops place = (fifo_op_at ops place).ended ≢ None

-- There is an end, and it is before this place of the history.
abbrev pub IsOverBefore : Option ℕ → ℕ → Type 0
IsOverBefore None at = ⊥
IsOverBefore (Some end) at = end < at

-- the first operation is known to have happened, and ended before the second one was invoked
abbrev pub PrecedesOp : List FifoOp → ℕ → ℕ → Type 0
PrecedesOp ops first second = IsOverBefore (fifo_op_at ops first).ended (fifo_op_at ops second).invoked

-- whether a number stands in a list
abbrev pub has_place : List ℕ → ℕ → Bool
has_place order place = list_any (λ x. x == place) order

-- the first number stands in the list, and the second one after it
abbrev pub PlaceStandsBefore : List ℕ → ℕ → ℕ → Type 0
PlaceStandsBefore [] first second = ⊥
PlaceStandsBefore (x ∷ order) first second =
    ((x ≡ first) × (has_place order second ≡ true)) ⊎ PlaceStandsBefore order first second

-- each number of the order is the place of an operation
abbrev pub ArePlaces : List FifoOp → List ℕ → Type 0
ArePlaces ops order = All (λ place. place < length ops) order

-- no number stands in the list twice
abbrev pub HasNoPlaceTwice : List ℕ → Type 0
HasNoPlaceTwice order = IsDistinct ◌==◌ order

-- each operation that is known to have happened stands in the order
abbrev pub HasAllKnownDone : List FifoOp → List ℕ → Type 0
HasAllKnownDone ops order = (place : ℕ) → IsKnownDone ops place → has_place order place ≡ true

-- Where an operation stands in the order, each one that is known to have happened and ended before
-- that one was invoked stands before it.
abbrev pub KeepsOpPrecedence : List FifoOp → List ℕ → Type 0
KeepsOpPrecedence ops order =
    (first second : ℕ) → PrecedesOp ops first second → has_place order second ≡ true
    → PlaceStandsBefore order first second

-- The operations at these places, one after another, lead the queue from what it holds to what it
-- holds at last.
abbrev pub LeadsQueue : List FifoOp → List ℕ → List ℕ → List ℕ → Type 0
LeadsQueue ops queue [] last = last ≡ queue
LeadsQueue ops queue (place ∷ order) last =
    (next : List ℕ) × QueueAllows (fifo_op_at ops place).call queue next × LeadsQueue ops next order last

-- An order in which all operations that are known to have happened can have happened, maybe with
-- some of unknown outcome: a linearization.
pub record IsFifoOrder (ops : List FifoOp) (order : List ℕ) : Type 0 where
  pub last : List ℕ
  pub places : ArePlaces ops order
  pub distinct : HasNoPlaceTwice order
  pub precedence : KeepsOpPrecedence ops order
  pub runs : LeadsQueue ops [] order last
  pub whole : HasAllKnownDone ops order
