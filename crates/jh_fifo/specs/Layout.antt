-- Spans in their turn, and operations laid end to end.
use Rattle.std.specs.Prelude.{◌≡◌, ◌⊎◌, ℕ, ◌+◌, ◌<◌, ◌≤◌, true, Some, None, MatchOption, List, [], ◌∷◌, length}
use Rattle.jh_fifo.specs.declared.operations.FifoCall.TheVariants.{Empty}
use Rattle.jh_fifo.specs.declared.operations.FifoOp.{FifoOp}
use Rattle.jh_fifo.specs.declared.spans.Span.{Span}
use Rattle.jh_fifo.specs.Order.{fifo_op_at, has_place, PlaceStandsBefore, HasNoPlaceTwice, IsKnownDone, PrecedesOp, LeadsQueue}
use Rattle.jh_fifo.specs.Reasons.{call_at, Enqueues, Dequeues}
use Rattle.jh_fifo.specs.Times.{never, LastsTo}
use Rattle.jh_fifo.specs.Spans.{span_at}

-- a value that can be put in at `from`, and taken out at `leaving` or never
pub record IsValuePlaced (ops : List FifoOp) (span : Span) : Type 0 where
  pub value : ℕ
  pub enqueues : Enqueues ops value span.place
  pub goes : MatchOption span.dequeue (never ≤ span.leaving) (λ dequeue.
      Dequeues ops value dequeue × (span.leaving < never)
      × ((fifo_op_at ops dequeue).invoked ≤ span.leaving)
      × LastsTo (fifo_op_at ops dequeue).ended span.leaving)

-- a dequeue that can have found the queue empty at `from`
pub record IsEmptyPlaced (ops : List FifoOp) (span : Span) : Type 0 where
  pub empty : call_at ops span.place ≡ Empty
  pub done : IsKnownDone ops span.place
  pub none : span.dequeue ≡ None
  pub at_once : span.leaving ≡ span.from

-- one or the other
pub record IsPlaced (ops : List FifoOp) (span : Span) : Type 0 where
  pub kind : IsValuePlaced ops span ⊎ IsEmptyPlaced ops span
  pub begins : (fifo_op_at ops span.place).invoked ≤ span.from
  pub lasts : LastsTo (fifo_op_at ops span.place).ended span.from
  pub turn : span.from ≤ span.leaving
  pub soon : span.from < never

-- Spans of all that is known to have happened, each at its time, in the order in which the values
-- can go through the queue.
pub record CanGoThrough (ops : List FifoOp) (spans : List Span) : Type 0 where
  pub each : (i : ℕ) → i < length spans → IsPlaced ops (span_at spans i)
  pub come_in_turn : (i j : ℕ) → i ≤ j → j < length spans
      → (span_at spans i).from ≤ (span_at spans j).from
  pub go_in_turn : (i j : ℕ) → i ≤ j → j < length spans
      → (span_at spans i).leaving ≤ (span_at spans j).leaving
  pub apart : (i j : ℕ) → i < length spans → j < length spans
      → (span_at spans i).place ≡ (span_at spans j).place → i ≡ j
  pub whole : (place : ℕ) → IsKnownDone ops place → (i : ℕ) × (i < length spans)
      × (((span_at spans i).place ≡ place) ⊎ ((span_at spans i).dequeue ≡ Some place))

-- The queue holds the values of the spans from one number on, before another.
abbrev pub WaitInQueue : List FifoOp → List Span → List ℕ → ℕ → ℕ → Type 0
WaitInQueue ops spans [] gone come = gone ≡ come
WaitInQueue ops spans (value ∷ queue) gone come = (gone < come)
    × Enqueues ops value (span_at spans gone).place × WaitInQueue ops spans queue (gone + 1) come

-- The order has what came with the spans before `come`, and went with those before `gone`.
pub record IsLaid (ops : List FifoOp) (spans : List Span) (gone come : ℕ) (order : List ℕ)
    : Type 0 where
  pub queue : List ℕ
  pub runs : LeadsQueue ops [] order queue
  pub waits : WaitInQueue ops spans queue gone come
  pub distinct : HasNoPlaceTwice order
  pub each : (place : ℕ) → has_place order place ≡ true → (i : ℕ)
      × (((i < come) × ((span_at spans i).place ≡ place))
      ⊎ ((i < gone) × ((span_at spans i).dequeue ≡ Some place)))
  pub came : (i : ℕ) → i < come → has_place order (span_at spans i).place ≡ true
  pub went : (i dequeue : ℕ) → i < gone → (span_at spans i).dequeue ≡ Some dequeue
      → has_place order dequeue ≡ true
  pub times : (first second : ℕ) → PlaceStandsBefore order first second → PrecedesOp ops second first → ⊥
  pub before_come : (place i : ℕ) → has_place order place ≡ true → come ≤ i → i < length spans
      → (fifo_op_at ops place).invoked ≤ (span_at spans i).from
  pub before_gone : (place i : ℕ) → has_place order place ≡ true → gone ≤ i → i < length spans
      → (fifo_op_at ops place).invoked ≤ (span_at spans i).leaving
