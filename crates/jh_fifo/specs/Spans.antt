-- When values came and went.
use Rattle.std.specs.Prelude.{◌≡◌, ◌⊎◌, ℕ, ◌<◌, ◌≤◌, Some, None, MatchOption, List, length, slice_index_or}
use Rattle.jh_fifo.specs.declared.operations.FifoCall.TheVariants.{Empty}
use Rattle.jh_fifo.specs.declared.operations.FifoOp.{FifoOp}
use Rattle.jh_fifo.specs.declared.spans.Span.{Span}
use Rattle.jh_fifo.specs.Order.{fifo_op_at, IsKnownDone}
use Rattle.jh_fifo.specs.Times.{never, LastsTo}
use Rattle.jh_fifo.specs.Reasons.{call_at, Enqueues, Dequeues, IsOf}

-- what stands past the end of a list of spans
abbrev pub no_span : Span
no_span = record { place = 0; dequeue = None; from = 0; entered = 0; leaving = 0; left = 0 }

-- the span of a number
abbrev pub span_at : List Span → ℕ → Span
span_at spans number = slice_index_or spans number no_span

-- The span of a value that was in the queue: what is known of when it came and when it went.
pub record IsValueSpan (ops : List FifoOp) (span : Span) : Type 0 where
  pub value : ℕ
  pub enqueues : Enqueues ops value span.place
  pub was : IsKnownDone ops span.place ⊎ ((dequeue : ℕ) × (span.dequeue ≡ Some dequeue))
  pub begins : span.from ≡ (fifo_op_at ops span.place).invoked
  pub lasts : LastsTo (fifo_op_at ops span.place).ended span.entered
  pub comes : span.entered < never → (place : ℕ) × IsOf ops value place
      × ((fifo_op_at ops place).ended ≡ Some span.entered)
  pub goes : MatchOption span.dequeue
      (((dequeue : ℕ) → Dequeues ops value dequeue → ⊥)
      × (span.leaving ≡ never) × (span.left ≡ never))
      (λ dequeue. Dequeues ops value dequeue × ((fifo_op_at ops dequeue).ended ≡ Some span.left)
      × (span.left < never) × ((fifo_op_at ops dequeue).invoked ≤ span.leaving)
      × ((span.leaving ≡ (fifo_op_at ops dequeue).invoked) ⊎ (span.leaving ≡ span.from)))

-- The span of a dequeue that found the queue empty: one place of the history, while it ran.
pub record IsEmptySpan (ops : List FifoOp) (span : Span) : Type 0 where
  pub empty : call_at ops span.place ≡ Empty
  pub done : IsKnownDone ops span.place
  pub none : span.dequeue ≡ None
  pub begins : (fifo_op_at ops span.place).invoked ≤ span.from
  pub lasts : LastsTo (fifo_op_at ops span.place).ended span.from
  pub entered : span.entered ≡ span.from
  pub leaving : span.leaving ≡ span.from
  pub left : span.left ≡ span.from

-- The times of a span are in their order.
pub record IsFair (span : Span) : Type 0 where
  pub enters : span.from ≤ span.entered
  pub leaves : span.leaving ≤ span.left
  pub passes : span.from ≤ span.leaving
  pub soon : span.from < never

abbrev pub AreFair : List Span → Type 0
AreFair spans = (i : ℕ) → i < length spans → IsFair (span_at spans i)

-- no two spans are of one operation
abbrev pub AreSpansApart : List Span → Type 0
AreSpansApart spans = (i j : ℕ) → i < length spans → j < length spans
    → (span_at spans i).place ≡ (span_at spans j).place → i ≡ j

-- the span of what the operation at this place enqueues
pub record IsSpanAt (ops : List FifoOp) (place : ℕ) (span : Span) : Type 0 where
  pub at : span.place ≡ place
  pub value : IsValueSpan ops span
  pub fair : IsFair span

-- what the operation enqueues is not known to have been in the queue
abbrev pub IsUntoldEnqueue : List FifoOp → ℕ → Type 0
IsUntoldEnqueue ops place = (value : ℕ) → Enqueues ops value place
    → IsKnownDone ops place ⊎ ((dequeue : ℕ) × Dequeues ops value dequeue) → ⊥

-- the operation is that of a span, or its dequeue
abbrev pub IsOfSpans : List Span → ℕ → Type 0
IsOfSpans spans place = (i : ℕ) × (i < length spans)
    × (((span_at spans i).place ≡ place) ⊎ ((span_at spans i).dequeue ≡ Some place))

-- The spans of all values that were in the queue.
pub record AreValues (ops : List FifoOp) (spans : List Span) : Type 0 where
  pub each : (i : ℕ) → i < length spans → IsValueSpan ops (span_at spans i)
  pub fair : AreFair spans
  pub apart : AreSpansApart spans
  pub whole : (place : ℕ) → IsKnownDone ops place → (call_at ops place ≡ Empty) ⊎ IsOfSpans spans place

-- The spans of all values that were in the queue, and of all dequeues that found it empty: while
-- no value has to be in it.
pub record AreSpans (ops : List FifoOp) (spans : List Span) : Type 0 where
  pub each : (i : ℕ) → i < length spans
      → IsValueSpan ops (span_at spans i) ⊎ IsEmptySpan ops (span_at spans i)
  pub fair : AreFair spans
  pub apart : AreSpansApart spans
  pub free : (i j : ℕ) → i < length spans → j < length spans
      → call_at ops (span_at spans i).place ≡ Empty
      → (span_at spans j).entered < (span_at spans i).from
      → (span_at spans j).leaving ≤ (span_at spans i).from
  pub whole : (place : ℕ) → IsKnownDone ops place → IsOfSpans spans place
