-- Why a queue whose values are enqueued once each has no order. The reasons are those of Henzinger,
-- Sezgin and Vafeiadis, "Aspect-oriented linearizability proofs" (CONCUR 2013), in our own words.
use Rattle.std.specs.Prelude.{◌≡◌, ◌≢◌, ◌⊎◌, ℕ, ◌<◌, ◌≤◌, Some, List}
use Rattle.jh_fifo.specs.declared.operations.FifoCall.{FifoCall}
use Rattle.jh_fifo.specs.declared.operations.FifoCall.TheVariants.{Enqueue, Dequeue, Empty}
use Rattle.jh_fifo.specs.declared.operations.FifoOp.{FifoOp}
use Rattle.jh_fifo.specs.Order.{fifo_op_at, IsKnownDone, IsOverBefore, PrecedesOp}

abbrev pub call_at : List FifoOp → ℕ → FifoCall
call_at ops place = (fifo_op_at ops place).call

-- the operation enqueues this value
abbrev pub Enqueues : List FifoOp → ℕ → ℕ → Type 0
Enqueues ops value place = call_at ops place ≡ Enqueue value

-- the operation dequeues this value
abbrev pub Dequeues : List FifoOp → ℕ → ℕ → Type 0
Dequeues ops value place = call_at ops place ≡ Dequeue value

-- it does one or the other
abbrev pub IsOf : List FifoOp → ℕ → ℕ → Type 0
IsOf ops value place = Enqueues ops value place ⊎ Dequeues ops value place

-- Each value is enqueued by one operation at most.
abbrev pub EnqueuedOnce : List FifoOp → Type 0
EnqueuedOnce ops = (value first second : ℕ) → Enqueues ops value first
    → Enqueues ops value second → first ≡ second

-- Each dequeue is known to have happened.
abbrev pub DequeuesAreDone : List FifoOp → Type 0
DequeuesAreDone ops = (value place : ℕ) → Dequeues ops value place → IsKnownDone ops place

-- Each value is dequeued by one operation at most.
abbrev pub TakenOnce : List FifoOp → Type 0
TakenOnce ops = (value first second : ℕ) → Dequeues ops value first
    → Dequeues ops value second → first ≡ second

-- the value is known to have been in the queue
abbrev pub WasThere : List FifoOp → ℕ → Type 0
WasThere ops value = (enqueue : ℕ) × Enqueues ops value enqueue
    × (IsKnownDone ops enqueue ⊎ ((dequeue : ℕ) × Dequeues ops value dequeue))

-- Something of the first value ended before the second one's enqueue was invoked; or the first
-- one's dequeue ended before the second one's was invoked, or the second one has none.
abbrev pub GoesBefore : List FifoOp → ℕ → ℕ → Type 0
GoesBefore ops first second =
    ((place enqueue : ℕ) × IsOf ops first place × Enqueues ops second enqueue
    × PrecedesOp ops place enqueue)
    ⊎ ((dequeue : ℕ) × Dequeues ops first dequeue
    × ((next : ℕ) → Dequeues ops second next → PrecedesOp ops dequeue next))

-- At this place of the history the value is in the queue: something of it ended before, and each
-- dequeue of it was invoked after.
abbrev pub IsInQueue : List FifoOp → ℕ → ℕ → Type 0
IsInQueue ops at value = ((place : ℕ) × IsOf ops value place × IsOverBefore (fifo_op_at ops place).ended at)
    × ((dequeue : ℕ) → Dequeues ops value dequeue → at < (fifo_op_at ops dequeue).invoked)

-- The reasons. An operation ended before it was invoked;
abbrev pub EndsTooSoon : List FifoOp → ℕ → Type 0
EndsTooSoon ops place = PrecedesOp ops place place

-- a value was dequeued that nothing enqueues;
abbrev pub ComesFromNowhere : List FifoOp → ℕ → Type 0
ComesFromNowhere ops place = (value : ℕ) × Dequeues ops value place
    × ((enqueue : ℕ) → Enqueues ops value enqueue → ⊥)

-- a value was dequeued twice;
abbrev pub AreOfOne : List FifoOp → ℕ → ℕ → Type 0
AreOfOne ops first second = (first ≢ second)
    × ((value : ℕ) × Dequeues ops value first × Dequeues ops value second)

-- a dequeue ended before the enqueue of its value was invoked;
abbrev pub ComesTooSoon : List FifoOp → ℕ → ℕ → Type 0
ComesTooSoon ops dequeue enqueue = PrecedesOp ops dequeue enqueue
    × ((value : ℕ) × Dequeues ops value dequeue × Enqueues ops value enqueue)

-- each of two values goes before the other;
abbrev pub AreCrossed : List FifoOp → ℕ → ℕ → Type 0
AreCrossed ops first second = WasThere ops first × WasThere ops second
    × GoesBefore ops first second × GoesBefore ops second first

-- as the enqueues of two such values are;
abbrev pub AreCrossedAt : List FifoOp → ℕ → ℕ → Type 0
AreCrossedAt ops first second = (one other : ℕ) × Enqueues ops one first × Enqueues ops other second
    × AreCrossed ops one other

-- the queue was found empty, and at each place from invocation to end there is a value in it.
abbrev pub IsNeverEmpty : List FifoOp → ℕ → Type 0
IsNeverEmpty ops place = (call_at ops place ≡ Empty) × ((end : ℕ)
    × ((fifo_op_at ops place).ended ≡ Some end)
    × ((at : ℕ) → (fifo_op_at ops place).invoked ≤ at → at ≤ end → (value : ℕ) × IsInQueue ops at value))
