-- What the judge knows, and why a reason is enough.
use Rattle.std.proofs.Common.{◌≡◌, ℕ, ◌<◌, nat_cmp, Some, List, length, sym, ◌∙◌}
use Rattle.std.specs.BTreeMap.{get}
use Rattle.std.specs.declared.alloc.Global.{Global}
use Rattle.std.specs.declared.collections.btree_map.BTreeMap.{BTreeMap}
use Rattle.jh_fifo.specs.declared.operations.FifoOp.{FifoOp}
use Rattle.jh_fifo.specs.declared.tables.Side.TheVariants.{In, Out}
use Rattle.jh_fifo.specs.declared.verdict.FifoReason.{FifoReason}
use Rattle.jh_fifo.specs.declared.verdict.FifoReason.TheVariants.{EndedBeforeInvoked, NeverEnqueued, DequeuedTwice, DequeuedBeforeEnqueued, OutOfOrder, NeverEmpty}
use Rattle.jh_fifo.specs.declared.verdict.FifoVerdict.TheVariants.{Invalid}
use Rattle.jh_fifo.specs.Order.{fifo_op_at}
use Rattle.jh_fifo.specs.Reasons as reasons
use Rattle.jh_fifo.specs.Reasons.{call_at, Enqueues, Dequeues, TakenOnce}
use Rattle.jh_fifo.specs.Tables.{IsTable}
use Rattle.jh_fifo.specs.Judged.{IsUnsure, AreJudgedOps, IsFifoReason, HasNoOrder, IsFifoVerdict, IsTimelyAt, AreSoundOps}
use Rattle.jh_fifo.proofs.RunLemmas.{not_both_calls, not_enqueue}
use Rattle.jh_fifo.proofs.LawLemmas.{too_soon, nowhere, of_one, early, crossed, never_empty, ends_done}
use Rattle.jh_fifo.proofs.LayoutLemmas.{some_same, enqueue_inside, dequeue_inside, done_inside}

module _ (ops : List FifoOp) where
  pub no_order : AreJudgedOps ops → (reason : FifoReason) → IsFifoReason ops reason → HasNoOrder ops
  no_order fit (EndedBeforeInvoked p) h = λ order orders. too_soon ops order orders p h
  no_order fit (NeverEnqueued p) h = λ order orders. nowhere ops order orders fit.dequeues p h
  no_order fit (DequeuedTwice p q) h = λ order orders. of_one ops order orders fit.once fit.dequeues p q h
  no_order fit (DequeuedBeforeEnqueued p q) h = λ order orders. early ops order orders fit.once fit.dequeues p q h
  no_order fit (OutOfOrder p q) h = λ order orders. crossed ops order orders fit.once fit.dequeues h.0 h.1 h.4
  no_order fit (NeverEmpty p) h = λ order orders. never_empty ops order orders fit.once fit.dequeues p h

  pub invalid : AreJudgedOps ops → (reason : FifoReason) → IsFifoReason ops reason → IsFifoVerdict ops (Invalid reason)
  invalid fit reason h = (fit, h, no_order fit reason h)

  -- what is told by its value
  told_in : (table : BTreeMap ℕ ℕ Global) → IsTable ops In (length ops) table → (v p : ℕ) → Enqueues ops v p → get nat_cmp table v ≡ Some p
  told_in table is v p takes = is.whole v p (enqueue_inside ops v p takes) takes

  told_out : (table : BTreeMap ℕ ℕ Global) → IsTable ops Out (length ops) table → (v p : ℕ) → Dequeues ops v p → get nat_cmp table v ≡ Some p
  told_out table is v p takes = is.whole v p (dequeue_inside ops v p takes) takes

  pub once_taken : (table : BTreeMap ℕ ℕ Global) → IsTable ops Out (length ops) table → TakenOnce ops
  once_taken table is v p q a b = some_same p q (sym (told_out table is v p a) ∙ told_out table is v q b)

  pub are_fit : (table : BTreeMap ℕ ℕ Global) → IsTable ops In (length ops) table → ((p : ℕ) → p < length ops → IsUnsure ops p → ⊥) → AreJudgedOps ops
  are_fit table is none = record {
    once = λ v p q a b. some_same p q (sym (told_in table is v p a) ∙ told_in table is v q b);
    dequeues = λ v p takes unknown. none p (dequeue_inside ops v p takes) (record { unknown = unknown; other = λ w puts. not_both_calls w v (sym puts ∙ takes) });
    empties = λ p low empty unknown. none p low (record { unknown = unknown; other = λ w puts. not_enqueue w (sym puts ∙ empty) });
  }

  pub are_sound : AreJudgedOps ops → ((p : ℕ) → p < length ops → reasons.EndsTooSoon ops p → ⊥) → ((p : ℕ) → p < length ops → IsTimelyAt ops p) → (table : BTreeMap ℕ ℕ Global) → IsTable ops Out (length ops) table → AreSoundOps ops
  are_sound fit forward timely table is = record {
    fit = fit;
    forward = λ p h. forward p (done_inside ops p (ends_done (fifo_op_at ops p).ended _ h)) h;
    taken_once = once_taken table is;
    timely = λ p v takes. timely p (dequeue_inside ops v p takes) v takes;
  }
