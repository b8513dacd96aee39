-- What a verdict names are operations of the history.
use Rattle.std.proofs.Common.{◌≡◌, ◌∙◌, ℕ, zero, suc, ◌+◌, ◌<◌, ◌≤◌, Bool, true, false, cond, List, [], ◌∷◌, length, get_or, map, None, Some, Option, refl, sym, ap, subst, inl, inr, arith}
use Rattle.std.specs.List.{All, enumerate_from, filter}
use Rattle.std.proofs.lemmas.Bool.{cases_lt}
use Rattle.std.proofs.lemmas.List.{get_or_past}
use Rattle.std.proofs.lemmas.List.Elements.{All-nil, All-cons, All-weaker, All-map}
use Rattle.jh_edn.specs.Edn.{Edn}
use Rattle.jh_ops.specs.Operation.{Operation}
use Rattle.jh_ops.specs.declared.pairs.Pair.{Pair}
use Rattle.jh_fifo.specs.Judged.{IsFifoReason, IsFifoVerdict}
use Rattle.jh_fifo.specs.Order.{IsOverBefore, fifo_op_at, no_fifo_op}
use Rattle.jh_fifo.specs.Reasons.{call_at}
use Rattle.jh_fifo.specs.declared.operations.FifoCall.{FifoCall}
use Rattle.jh_fifo.specs.declared.operations.FifoCall.TheVariants.{Enqueue, Dequeue, Empty}
use Rattle.jh_fifo.specs.declared.operations.FifoOp.{FifoOp}
use Rattle.jh_fifo.specs.declared.verdict.FifoReason.{FifoReason}
use Rattle.jh_fifo.specs.declared.verdict.FifoReason.TheVariants.{EndedBeforeInvoked, NeverEnqueued, DequeuedTwice, DequeuedBeforeEnqueued, OutOfOrder, NeverEmpty}
use Rattle.jh_fifo.specs.declared.verdict.FifoVerdict.{FifoVerdict}
use Rattle.jh_fifo.specs.declared.verdict.FifoVerdict.TheVariants.{Valid, Invalid, EnqueuedTwice, UnknownDequeue}
use Rattle.jh_fifo_check.specs.FifoFindings.{IsNumberedVerdict, named_by_reason, named_by_verdict, number_of_place, numbered_reason}
use Rattle.jh_fifo_check.specs.FifoHistories.{did_not_fail, fifo_op_of, fifo_ops_of, numbers_not_failed, pairs_not_failed, values_through}

-- ---- among the operations that were judged

-- past their end stands none that happened
in_range : (ops : List FifoOp) (p : ℕ) → (fifo_op_at ops p ≡ no_fifo_op → ⊥) → p < length ops
in_range ops p h = elim (cases_lt p (length ops)) as (λ _. p < length ops) [
  | inl low ↦ low
  | inr past ↦ absurd (h (get_or_past ops p no_fifo_op past))
]

enqueue_there : (ops : List FifoOp) (p value : ℕ) → call_at ops p ≡ Enqueue value → p < length ops
enqueue_there ops p value e = in_range ops p (λ out. let bad : Enqueue value ≡ Empty = sym e ∙ ap (λ (op : FifoOp). op.call) out in cc)

dequeue_there : (ops : List FifoOp) (p value : ℕ) → call_at ops p ≡ Dequeue value → p < length ops
dequeue_there ops p value e = in_range ops p (λ out. let bad : Dequeue value ≡ Empty = sym e ∙ ap (λ (op : FifoOp). op.call) out in cc)

over_there : (ops : List FifoOp) (p at : ℕ) → IsOverBefore (fifo_op_at ops p).ended at → p < length ops
over_there ops p at h = in_range ops p (λ out. subst (λ (op : FifoOp). IsOverBefore op.ended at) out h)

ended_there : (ops : List FifoOp) (p end : ℕ) → (fifo_op_at ops p).ended ≡ Some end → p < length ops
ended_there ops p end e = in_range ops p (λ out. let bad : Some end ≡ None = sym e ∙ ap (λ (op : FifoOp). op.ended) out in cc)

one_low : (n a : ℕ) → a < n → All (λ p. p < n) (a ∷ [])
one_low n a h = All-cons (λ p. p < n) a [] h (All-nil (λ p. p < n))

two_low : (n a b : ℕ) → a < n → b < n → All (λ p. p < n) (a ∷ b ∷ [])
two_low n a b h k = All-cons (λ p. p < n) a (b ∷ []) h (one_low n b k)

reason_low : (ops : List FifoOp) (reason : FifoReason) → IsFifoReason ops reason → All (λ p. p < length ops) (named_by_reason reason)
reason_low ops (EndedBeforeInvoked p) h = one_low (length ops) p (over_there ops p (fifo_op_at ops p).invoked h)
reason_low ops (NeverEnqueued p) h = one_low (length ops) p (dequeue_there ops p h.0 h.1)
reason_low ops (DequeuedTwice a b) h = two_low (length ops) a b (dequeue_there ops a h.1.0 h.1.1) (dequeue_there ops b h.1.0 h.1.2)
reason_low ops (DequeuedBeforeEnqueued a b) h = two_low (length ops) a b (dequeue_there ops a h.1.0 h.1.1) (enqueue_there ops b h.1.0 h.1.2)
reason_low ops (OutOfOrder a b) h = two_low (length ops) a b (enqueue_there ops a h.0 h.2) (enqueue_there ops b h.1 h.3)
reason_low ops (NeverEmpty p) h = one_low (length ops) p (ended_there ops p h.1.0 h.1.1)

judged_low : (ops : List FifoOp) (judged : FifoVerdict) → IsFifoVerdict ops judged → All (λ p. p < length ops) (named_by_verdict judged)
judged_low ops (Valid order) h = All-nil (λ p. p < length ops)
judged_low ops (Invalid reason) h = reason_low ops reason h.1
judged_low ops (EnqueuedTwice a b) h = two_low (length ops) a b (enqueue_there ops a h.1.0 h.1.1) (enqueue_there ops b h.1.0 h.1.2)
judged_low ops (UnknownDequeue p) h = one_low (length ops) p h.0

-- ---- numbers in place of places

reason_numbers : (numbers : List ℕ) (reason : FifoReason) → named_by_reason (numbered_reason numbers reason) ≡ map (number_of_place numbers) (named_by_reason reason)
reason_numbers numbers (EndedBeforeInvoked p) = refl
reason_numbers numbers (NeverEnqueued p) = refl
reason_numbers numbers (DequeuedTwice a b) = refl
reason_numbers numbers (DequeuedBeforeEnqueued a b) = refl
reason_numbers numbers (OutOfOrder a b) = refl
reason_numbers numbers (NeverEmpty p) = refl

verdict_numbers : (numbers : List ℕ) (judged shown : FifoVerdict) → IsNumberedVerdict numbers judged shown → named_by_verdict shown ≡ map (number_of_place numbers) (named_by_verdict judged)
verdict_numbers numbers (Valid order) (Valid other) h = refl
verdict_numbers numbers (Invalid reason) (Invalid other) h = ap named_by_reason h ∙ reason_numbers numbers reason
verdict_numbers numbers (EnqueuedTwice a b) (EnqueuedTwice c d) h = λ i. h.0 i ∷ h.1 i ∷ []
verdict_numbers numbers (UnknownDequeue p) (UnknownDequeue n) h = λ i. h i ∷ []
verdict_numbers numbers (Valid order) (Invalid reason) h = absurd h
verdict_numbers numbers (Valid order) (EnqueuedTwice c d) h = absurd h
verdict_numbers numbers (Valid order) (UnknownDequeue n) h = absurd h
verdict_numbers numbers (Invalid reason) (Valid order) h = absurd h
verdict_numbers numbers (Invalid reason) (EnqueuedTwice c d) h = absurd h
verdict_numbers numbers (Invalid reason) (UnknownDequeue n) h = absurd h
verdict_numbers numbers (EnqueuedTwice a b) (Valid order) h = absurd h
verdict_numbers numbers (EnqueuedTwice a b) (Invalid reason) h = absurd h
verdict_numbers numbers (EnqueuedTwice a b) (UnknownDequeue n) h = absurd h
verdict_numbers numbers (UnknownDequeue p) (Valid order) h = absurd h
verdict_numbers numbers (UnknownDequeue p) (Invalid reason) h = absurd h
verdict_numbers numbers (UnknownDequeue p) (EnqueuedTwice c d) h = absurd h

-- ---- numbers of pairs

module _ (history : List Operation) where
  abbrev kept_from : ℕ → List Pair → List ℕ
  kept_from n pairs = map (λ (numbered : ℕ × Pair). numbered.0) (filter (λ (numbered : ℕ × Pair). did_not_fail history numbered.1) (enumerate_from n pairs))

  abbrev op_by : List Edn → Pair → FifoOp
  op_by values pair = fifo_op_of values history pair

  same_length : (values : List Edn) (n : ℕ) (pairs : List Pair) → length (kept_from n pairs) ≡ length (map (op_by values) (pairs_not_failed history pairs))
  same_length values n [] = refl
  same_length values n (p ∷ ps) =
      elim (did_not_fail history p) as (λ b.
      length (map (λ (numbered : ℕ × Pair). numbered.0) (cond b ((n, p) ∷ filter (λ (numbered : ℕ × Pair). did_not_fail history numbered.1) (enumerate_from (n + 1) ps)) (filter (λ (numbered : ℕ × Pair). did_not_fail history numbered.1) (enumerate_from (n + 1) ps))))
      ≡ length (map (op_by values) (cond b (p ∷ pairs_not_failed history ps) (pairs_not_failed history ps)))) [
        | true ↦ ap suc (same_length values (n + 1) ps)
        | false ↦ same_length values (n + 1) ps
      ]

  all_low : (n : ℕ) (pairs : List Pair) → All (λ k. k < n + length pairs) (kept_from n pairs)
  all_low n [] = All-nil (λ k. k < n + 0)
  all_low n (p ∷ ps) =
      let rest : All (λ k. k < n + length (p ∷ ps)) (kept_from (n + 1) ps) = All-weaker (λ k. k < (n + 1) + length ps) (λ k. k < n + length (p ∷ ps)) (λ k low. omega (arith, low)) (kept_from (n + 1) ps) (all_low (n + 1) ps) in
      elim (did_not_fail history p) as (λ b.
      All (λ k. k < n + length (p ∷ ps)) (map (λ (numbered : ℕ × Pair). numbered.0) (cond b ((n, p) ∷ filter (λ (numbered : ℕ × Pair). did_not_fail history numbered.1) (enumerate_from (n + 1) ps)) (filter (λ (numbered : ℕ × Pair). did_not_fail history numbered.1) (enumerate_from (n + 1) ps))))) [
        | true ↦ All-cons (λ k. k < n + length (p ∷ ps)) n (kept_from (n + 1) ps) (omega arith) rest
        | false ↦ rest
      ]

  -- a place among the operations that were judged has the number of a pair
  number_low : (pairs : List Pair) (p : ℕ) → p < length (fifo_ops_of history (pairs_not_failed history pairs)) → number_of_place (numbers_not_failed history pairs) p < length pairs
  number_low pairs p low =
      let long : length (kept_from 0 pairs) ≡ length (fifo_ops_of history (pairs_not_failed history pairs)) = same_length (values_through history (pairs_not_failed history pairs)) 0 pairs in
      omega (arith, all_low 0 pairs p 0 (omega (arith, low, long)))

  pub named_low : (pairs : List Pair) (judged shown : FifoVerdict) → IsFifoVerdict (fifo_ops_of history (pairs_not_failed history pairs)) judged
      → IsNumberedVerdict (numbers_not_failed history pairs) judged shown → All (λ k. k < length pairs) (named_by_verdict shown)
  named_low pairs judged shown right numbered =
      let ops = fifo_ops_of history (pairs_not_failed history pairs) in
      let numbers = numbers_not_failed history pairs in
      subst (All (λ k. k < length pairs)) (sym (verdict_numbers numbers judged shown numbered))
      (All-map (λ k. k < length pairs) (number_of_place numbers) (named_by_verdict judged)
      (All-weaker (λ p. p < length ops) (λ p. number_of_place numbers p < length pairs) (number_low pairs) (named_by_verdict judged) (judged_low ops judged right)))
