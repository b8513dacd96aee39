-- What the judge answers.
use Rattle.std.specs.Prelude.{◌≡◌, ◌≢◌, ℕ, ◌<◌, None, List, length}
use Rattle.jh_fifo.specs.declared.operations.FifoOp.{FifoOp}
use Rattle.jh_fifo.specs.declared.verdict.FifoReason.{FifoReason}
use Rattle.jh_fifo.specs.declared.verdict.FifoReason.TheVariants as reason
use Rattle.jh_fifo.specs.declared.verdict.FifoVerdict.{FifoVerdict}
use Rattle.jh_fifo.specs.declared.verdict.FifoVerdict.TheVariants.{Valid, Invalid, EnqueuedTwice, UnknownDequeue}
use Rattle.jh_fifo.specs.Order.{fifo_op_at, PrecedesOp, IsFifoOrder}
use Rattle.jh_fifo.specs.Reasons.{Enqueues, Dequeues, EnqueuedOnce, DequeuesAreDone, TakenOnce, EndsTooSoon, ComesFromNowhere, AreOfOne, ComesTooSoon, AreCrossedAt, IsNeverEmpty}
use Rattle.jh_fifo.specs.Moments.{EmptiesAreDone}

-- It is no enqueue, and it is not known whether it happened.
pub record IsUnsure (ops : List FifoOp) (place : ℕ) : Type 0 where
  pub unknown : (fifo_op_at ops place).ended ≡ None
  pub other : (value : ℕ) → Enqueues ops value place → ⊥

-- Operations that are judged: each value is enqueued once at most, and of the dequeues it is known
-- that they happened.
pub record AreJudgedOps (ops : List FifoOp) : Type 0 where
  pub once : EnqueuedOnce ops
  pub dequeues : DequeuesAreDone ops
  pub empties : EmptiesAreDone ops

-- the reason applies
abbrev pub IsFifoReason : List FifoOp → FifoReason → Type 0
IsFifoReason ops (reason.EndedBeforeInvoked place) = EndsTooSoon ops place
IsFifoReason ops (reason.NeverEnqueued place) = ComesFromNowhere ops place
IsFifoReason ops (reason.DequeuedTwice first second) = AreOfOne ops first second
IsFifoReason ops (reason.DequeuedBeforeEnqueued dequeue enqueue) = ComesTooSoon ops dequeue enqueue
IsFifoReason ops (reason.OutOfOrder first second) = AreCrossedAt ops first second
IsFifoReason ops (reason.NeverEmpty place) = IsNeverEmpty ops place

-- no list is an order
abbrev pub HasNoOrder : List FifoOp → Type 0
HasNoOrder ops = (order : List ℕ) → IsFifoOrder ops order → ⊥

-- the verdict is right
abbrev pub IsFifoVerdict : List FifoOp → FifoVerdict → Type 0
IsFifoVerdict ops (Valid order) = AreJudgedOps ops × IsFifoOrder ops order.items
IsFifoVerdict ops (Invalid why) = AreJudgedOps ops × IsFifoReason ops why × HasNoOrder ops
IsFifoVerdict ops (EnqueuedTwice first second) = (first ≢ second)
    × ((value : ℕ) × Enqueues ops value first × Enqueues ops value second)
IsFifoVerdict ops (UnknownDequeue place) = (place < length ops) × IsUnsure ops place

-- Where it dequeues a value, something enqueues that, and it did not end before.
abbrev pub IsTimelyAt : List FifoOp → ℕ → Type 0
IsTimelyAt ops place = (value : ℕ) → Dequeues ops value place
    → (enqueue : ℕ) × Enqueues ops value enqueue × (PrecedesOp ops place enqueue → ⊥)

-- Operations none of which is wrong by itself or with one other of its value.
pub record AreSoundOps (ops : List FifoOp) : Type 0 where
  pub fit : AreJudgedOps ops
  pub forward : (place : ℕ) → EndsTooSoon ops place → ⊥
  pub taken_once : TakenOnce ops
  pub timely : (place : ℕ) → IsTimelyAt ops place
