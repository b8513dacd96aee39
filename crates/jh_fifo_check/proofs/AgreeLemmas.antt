-- Two findings of one history.
use Rattle.std.proofs.Common.{◌≡◌, ◌∙◌, ℕ, ◌<◌, Bool, List, length, None, refl, sym, ap}
use Rattle.jh_ops.specs.Operation.{Operation}
use Rattle.jh_ops.specs.Pairing.{history_pairs}
use Rattle.jh_check.specs.declared.verdict.Verdict.{Verdict}
use Rattle.jh_fifo.specs.Judged.{AreJudgedOps, IsFifoVerdict, IsUnsure}
use Rattle.jh_fifo.specs.Order.{fifo_op_at}
use Rattle.jh_fifo.specs.Reasons.{call_at, Enqueues}
use Rattle.jh_fifo.specs.declared.operations.FifoCall.{FifoCall}
use Rattle.jh_fifo.specs.declared.operations.FifoCall.TheVariants.{Enqueue, Dequeue, Empty}
use Rattle.jh_fifo.specs.declared.operations.FifoOp.{FifoOp}
use Rattle.jh_fifo.specs.declared.verdict.FifoVerdict.{FifoVerdict}
use Rattle.jh_fifo.specs.declared.verdict.FifoVerdict.TheVariants.{Valid, Invalid, EnqueuedTwice, UnknownDequeue}
use Rattle.jh_fifo_check.specs.FifoFindings.{IsFifoFinding, IsNumberedVerdict, verdict_of_fifo}
use Rattle.jh_fifo_check.specs.FifoHistories.{fifo_ops_of, pairs_not_failed}
use Rattle.jh_fifo_check.specs.declared.finding.FifoFinding.{FifoFinding}

-- operations of which one is unsure are not judged
unsure_not_judged : (ops : List FifoOp) (place : ℕ) → AreJudgedOps ops → place < length ops → IsUnsure ops place → ⊥
unsure_not_judged ops place fit low unsure = go (call_at ops place) refl where
  go : (call : FifoCall) → call_at ops place ≡ call → ⊥
  go (Enqueue value) e = unsure.other value e
  go (Dequeue value) e = fit.dequeues value place e unsure.unknown
  go Empty e = fit.empties place low e unsure.unknown

twice_not_judged : (ops : List FifoOp) (first second : ℕ) → AreJudgedOps ops → (first ≡ second → ⊥) → (value : ℕ) × Enqueues ops value first × Enqueues ops value second → ⊥
twice_not_judged ops first second fit apart both = apart (fit.once both.0 first second both.1 both.2)

judged_agree : (ops : List FifoOp) (a b : FifoVerdict) → IsFifoVerdict ops a → IsFifoVerdict ops b → verdict_of_fifo a ≡ verdict_of_fifo b
judged_agree ops (Valid order) (Valid other) x y = refl
judged_agree ops (Valid order) (Invalid why) x y = absurd (y.2 order.items x.1)
judged_agree ops (Valid order) (EnqueuedTwice first second) x y = absurd (twice_not_judged ops first second x.0 y.0 y.1)
judged_agree ops (Valid order) (UnknownDequeue place) x y = absurd (unsure_not_judged ops place x.0 y.0 y.1)
judged_agree ops (Invalid why) (Valid order) x y = absurd (x.2 order.items y.1)
judged_agree ops (Invalid why) (Invalid other) x y = refl
judged_agree ops (Invalid why) (EnqueuedTwice first second) x y = absurd (twice_not_judged ops first second x.0 y.0 y.1)
judged_agree ops (Invalid why) (UnknownDequeue place) x y = absurd (unsure_not_judged ops place x.0 y.0 y.1)
judged_agree ops (EnqueuedTwice first second) (Valid order) x y = absurd (twice_not_judged ops first second y.0 x.0 x.1)
judged_agree ops (EnqueuedTwice first second) (Invalid why) x y = absurd (twice_not_judged ops first second y.0 x.0 x.1)
judged_agree ops (EnqueuedTwice first second) (EnqueuedTwice one other) x y = refl
judged_agree ops (EnqueuedTwice first second) (UnknownDequeue place) x y = refl
judged_agree ops (UnknownDequeue place) (Valid order) x y = absurd (unsure_not_judged ops place y.0 x.0 x.1)
judged_agree ops (UnknownDequeue place) (Invalid why) x y = absurd (unsure_not_judged ops place y.0 x.0 x.1)
judged_agree ops (UnknownDequeue place) (EnqueuedTwice first second) x y = refl
judged_agree ops (UnknownDequeue place) (UnknownDequeue other) x y = refl

-- numbers in place of places say the same
numbered_says : (numbers : List ℕ) (a b : FifoVerdict) → IsNumberedVerdict numbers a b → verdict_of_fifo a ≡ verdict_of_fifo b
numbered_says numbers (Valid order) (Valid other) h = refl
numbered_says numbers (Invalid why) (Invalid other) h = refl
numbered_says numbers (EnqueuedTwice first second) (EnqueuedTwice one other) h = refl
numbered_says numbers (UnknownDequeue place) (UnknownDequeue number) h = refl
numbered_says numbers (Valid order) (Invalid why) h = absurd h
numbered_says numbers (Valid order) (EnqueuedTwice one other) h = absurd h
numbered_says numbers (Valid order) (UnknownDequeue number) h = absurd h
numbered_says numbers (Invalid why) (Valid other) h = absurd h
numbered_says numbers (Invalid why) (EnqueuedTwice one other) h = absurd h
numbered_says numbers (Invalid why) (UnknownDequeue number) h = absurd h
numbered_says numbers (EnqueuedTwice first second) (Valid other) h = absurd h
numbered_says numbers (EnqueuedTwice first second) (Invalid why) h = absurd h
numbered_says numbers (EnqueuedTwice first second) (UnknownDequeue number) h = absurd h
numbered_says numbers (UnknownDequeue place) (Valid other) h = absurd h
numbered_says numbers (UnknownDequeue place) (Invalid why) h = absurd h
numbered_says numbers (UnknownDequeue place) (EnqueuedTwice one other) h = absurd h

pub fifo_agree : (explain other : Bool) (history : List Operation) (a b : FifoFinding)
    → IsFifoFinding explain history a → IsFifoFinding other history b → verdict_of_fifo a.verdict ≡ verdict_of_fifo b.verdict
fifo_agree explain other history a b x y =
    sym (numbered_says _ x.0 a.verdict x.2)
    ∙ judged_agree (fifo_ops_of history (pairs_not_failed history (history_pairs history))) x.0 y.0 x.1 y.1
    ∙ numbered_says _ y.0 b.verdict y.2
