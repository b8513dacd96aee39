-- The spans of the values that were in the queue, gathered place by place.
use Rattle.std.proofs.Common.{◌≡◌, ℕ, ◌+◌, ◌<◌, ◌≤◌, Option, Some, None, List, [], ◌∷◌, ◌++◌, length, min, max, refl, sym, ap, subst, ◌∙◌, inl, inr, arith}
use Rattle.std.specs.Prelude.{◌⊎◌}
use Rattle.std.proofs.lemmas.Bool.{cases_lt}
use Rattle.jh_fifo.specs.declared.operations.FifoCall.{FifoCall}
use Rattle.jh_fifo.specs.declared.operations.FifoCall.TheVariants.{Enqueue, Dequeue, Empty}
use Rattle.jh_fifo.specs.declared.operations.FifoOp.{FifoOp}
use Rattle.jh_fifo.specs.declared.spans.Span.{Span}
use Rattle.jh_fifo.specs.Order.{fifo_op_at, IsKnownDone, IsOverBefore}
use Rattle.jh_fifo.specs.Reasons.{call_at, Enqueues, Dequeues, IsOf}
use Rattle.jh_fifo.specs.Times.{never, end_or_never, LastsTo}
use Rattle.jh_fifo.specs.Judged.{AreSoundOps}
use Rattle.jh_fifo.specs.Spans.{span_at, IsValueSpan, IsFair, IsSpanAt, IsUntoldEnqueue, IsOfSpans, AreFair, AreSpansApart, AreValues}
use Rattle.jh_fifo.proofs.RunLemmas.{same_enqueue}
use Rattle.jh_fifo.proofs.LayoutLemmas.{enqueue_inside, done_inside}
use Rattle.jh_fifo.proofs.LineLemmas.{index_cases, index_front, index_last, span_front, span_last}
use Rattle.jh_fifo.proofs.SpanLemmas.{goes_or_stays}

-- The spans of the values that are enqueued before a place of the list.
pub record AreGathered (ops : List FifoOp) (bound : ℕ) (spans : List Span) : Type 0 where
  pub each : (i : ℕ) → i < length spans → IsValueSpan ops (span_at spans i)
  pub fair : AreFair spans
  pub apart : AreSpansApart spans
  pub below : (i : ℕ) → i < length spans → (span_at spans i).place < bound
  pub whole : (value place : ℕ) → place < bound → Enqueues ops value place
      → IsKnownDone ops place ⊎ ((dequeue : ℕ) × Dequeues ops value dequeue)
      → (i : ℕ) × (i < length spans) × ((span_at spans i).place ≡ place)

module _ (ops : List FifoOp) where
  module _ (n : ℕ) (spans : List Span) (so : AreGathered ops n spans) where
    pub gathered_skip : IsUntoldEnqueue ops n → AreGathered ops (n + 1) spans
    gathered_skip untold = record {
      each = so.each;
      fair = so.fair;
      apart = so.apart;
      below = λ i low. let a = so.below i low in omega (arith, a);
      whole = λ v p low is was. elim (cases_lt p n) as (λ _. (i : ℕ) × (i < length spans) × ((span_at spans i).place ≡ p)) [
        | inl lt ↦ so.whole v p lt is was
        | inr ge ↦ (let same : p ≡ n = omega (arith, low, ge) in absurd (untold v (subst (λ q. Enqueues ops v q) same is) (subst (λ q. IsKnownDone ops q ⊎ ((d : ℕ) × Dequeues ops v d)) same was)))
      ];
    }

    pub gathered_more : (span : Span) → IsSpanAt ops n span → AreGathered ops (n + 1) (spans ++ span ∷ [])
    gathered_more span is_at = record {
      each = λ i low. elim (index_cases spans span i low) as (λ _. IsValueSpan ops (span_at (spans ++ span ∷ []) i)) [
        | inl old ↦ subst (λ s. IsValueSpan ops s) (sym old.1) (so.each i old.0)
        | inr end ↦ subst (λ s. IsValueSpan ops s) (sym end.1) is_at.value
      ];
      fair = λ i low. elim (index_cases spans span i low) as (λ _. IsFair (span_at (spans ++ span ∷ []) i)) [
        | inl old ↦ subst (λ s. IsFair s) (sym old.1) (so.fair i old.0)
        | inr end ↦ subst (λ s. IsFair s) (sym end.1) is_at.fair
      ];
      apart = λ i j low_i low_j is. elim (index_cases spans span i low_i) as (λ _. i ≡ j) [
        | inl a ↦ elim (index_cases spans span j low_j) as (λ _. i ≡ j) [
          | inl b ↦ so.apart i j a.0 b.0 (sym (ap (λ s. s.place) a.1) ∙ is ∙ ap (λ s. s.place) b.1)
          | inr b ↦ (let x = so.below i a.0 in let y : (span_at spans i).place ≡ n = sym (ap (λ s. s.place) a.1) ∙ is ∙ ap (λ s. s.place) b.1 ∙ is_at.at in absurd (omega (arith, x, y)))
        ]
        | inr a ↦ elim (index_cases spans span j low_j) as (λ _. i ≡ j) [
          | inl b ↦ (let x = so.below j b.0 in let y : (span_at spans j).place ≡ n = sym (ap (λ s. s.place) b.1) ∙ sym is ∙ ap (λ s. s.place) a.1 ∙ is_at.at in absurd (omega (arith, x, y)))
          | inr b ↦ a.0 ∙ sym b.0
        ]
      ];
      below = λ i low. elim (index_cases spans span i low) as (λ _. (span_at (spans ++ span ∷ []) i).place < n + 1) [
        | inl old ↦ (let a = so.below i old.0 in let b = ap (λ s. s.place) old.1 in omega (arith, a, b))
        | inr end ↦ (let a = is_at.at in let b = ap (λ s. s.place) end.1 in omega (arith, a, b))
      ];
      whole = λ v p low is was. elim (cases_lt p n) as (λ _. (i : ℕ) × (i < length (spans ++ span ∷ [])) × ((span_at (spans ++ span ∷ []) i).place ≡ p)) [
        | inl lt ↦ (let r = so.whole v p lt is was in (r.0, index_front spans span r.0 r.1, ap (λ s. s.place) (span_front spans span r.0 r.1) ∙ r.2))
        | inr ge ↦ (let same : n ≡ p = omega (arith, low, ge) in (length spans, index_last spans span, ap (λ s. s.place) (span_last spans span) ∙ is_at.at ∙ same))
      ];
    }

  -- all is gathered
  pub gathered_all : (spans : List Span) → AreSoundOps ops → AreGathered ops (length ops) spans → AreValues ops spans
  gathered_all spans sound so = record {
    each = so.each;
    fair = so.fair;
    apart = so.apart;
    whole = λ p done. by_call p done (call_at ops p) refl;
  } where
    by_call : (p : ℕ) → IsKnownDone ops p → (call : FifoCall) → call_at ops p ≡ call → (call_at ops p ≡ Empty) ⊎ IsOfSpans spans p
    by_call p done (Enqueue v) is = let r = so.whole v p (done_inside ops p done) is (inl done) in inr (r.0, r.1, inl r.2)
    by_call p done Empty is = inl is
    by_call p done (Dequeue v) is =
        let e = sound.timely p v is in
        let r = so.whole v e.0 (enqueue_inside ops v e.0 e.1) e.1 (inr (p, is)) in
        let value = so.each r.0 r.1 in
        let same : value.value ≡ v = same_enqueue value.value v (sym value.enqueues ∙ ap (call_at ops) r.2 ∙ e.1) in
        let is' : Dequeues ops value.value p = is ∙ ap (λ w. Dequeue w) (sym same) in
        elim (goes_or_stays ops (span_at spans r.0) value) as (λ _. (call_at ops p ≡ Empty) ⊎ IsOfSpans spans p) [
          | inl stays ↦ absurd (stays.1 p is')
          | inr goes ↦ inr (r.0, r.1, inr (goes.1 ∙ ap (λ d. Some d) (sound.taken_once value.value goes.0 p goes.2 is')))
        ]

not_over : (ended : Option ℕ) (at : ℕ) → LastsTo ended at → at < never → at ≤ end_or_never ended
not_over None at lasts soon = omega (arith, soon)
not_over (Some end) at lasts soon = elim (cases_lt end at) as (λ _. at ≤ end) [ inl lt ↦ absurd (lasts lt) | inr ge ↦ ge ]

end_is : (ended : Option ℕ) → (ended ≡ None → ⊥) → (end : ℕ) × (ended ≡ Some end) × (end_or_never ended ≡ end)
end_is None some = absurd (some refl)
end_is (Some end) some = (end, refl, refl)

lasts_to_end : (ended : Option ℕ) (at : ℕ) → at ≤ end_or_never ended → LastsTo ended at
lasts_to_end None at le h = h
lasts_to_end (Some end) at le h = omega (arith, le, h)

-- an end that is no later than another, or that other
comes_by : (ended : Option ℕ) (left entered : ℕ) → left < never → entered ≡ min (end_or_never ended) left → (ended ≡ Some entered) ⊎ (entered ≡ left)
comes_by None left entered soon is = inr (omega (arith, is, soon))
comes_by (Some end) left entered soon is = elim (cases_lt left end) as (λ _. (◌≡◌ {A = Option ℕ} (Some end) (Some entered)) ⊎ (entered ≡ left)) [
  | inl lt ↦ inr (omega (arith, is, lt))
  | inr ge ↦ (let same : end ≡ entered = omega (arith, is, ge) in inl (ap (λ n. Some n) same))
]

either_max : (a b m : ℕ) → m ≡ max a b → (m ≡ b) ⊎ (m ≡ a)
either_max a b m is = elim (cases_lt a b) as (λ _. (m ≡ b) ⊎ (m ≡ a)) [ inl lt ↦ inl (omega (arith, is, lt)) | inr ge ↦ inr (omega (arith, is, ge)) ]

module _ (ops : List FifoOp) (sound : AreSoundOps ops) (p v : ℕ) (puts : Enqueues ops v p) (from : ℕ) (from_is : from ≡ (fifo_op_at ops p).invoked) (soon : from < never) where
  from_end : from ≤ end_or_never (fifo_op_at ops p).ended
  from_end = not_over (fifo_op_at ops p).ended from (λ h. sound.forward p (subst (λ n. IsOverBefore (fifo_op_at ops p).ended n) from_is h)) soon

  pub taken_at : (d : ℕ) → Dequeues ops v d → (entered leaving left invoked : ℕ) → invoked ≡ (fifo_op_at ops d).invoked → left ≡ end_or_never (fifo_op_at ops d).ended → left ≤ never → ((end : ℕ) → (fifo_op_at ops d).ended ≡ Some end → end < never) → invoked < never
      → entered ≡ min (end_or_never (fifo_op_at ops p).ended) left → leaving ≡ max from invoked
      → IsSpanAt ops p (record { place = p; dequeue = Some d; from = from; entered = entered; leaving = leaving; left = left })
  taken_at d takes entered leaving left invoked invoked_is left_is high bound low entered_is leaving_is =
      let e = end_is (fifo_op_at ops d).ended (sound.fit.dequeues v d takes) in
      let ends : (fifo_op_at ops d).ended ≡ Some left = e.1 ∙ ap (λ n. Some n) (sym e.2 ∙ sym left_is) in
      let some_time : left < never = bound left ends in
      let order : from ≤ left = elim (cases_lt left from) as (λ _. from ≤ left) [
        | inl lt ↦ absurd (let t = sound.timely d v takes in t.2 (subst (λ q. IsOverBefore (fifo_op_at ops d).ended (fifo_op_at ops q).invoked) (sound.fit.once v p t.0 puts t.1) (subst (λ n. IsOverBefore (fifo_op_at ops d).ended n) from_is (subst (λ o. IsOverBefore o from) (sym ends) lt))))
        | inr ge ↦ ge
      ] in
      let order_d : invoked ≤ left = elim (cases_lt left invoked) as (λ _. invoked ≤ left) [
        | inl lt ↦ absurd (sound.forward d (subst (λ n. IsOverBefore (fifo_op_at ops d).ended n) invoked_is (subst (λ o. IsOverBefore o invoked) (sym ends) lt)))
        | inr ge ↦ ge
      ] in
      let begin = from_end in
      record {
        at = refl;
        value = record {
          value = v;
          enqueues = puts;
          was = inr (d, refl);
          begins = from_is;
          lasts = lasts_to_end (fifo_op_at ops p).ended entered (omega (arith, entered_is));
          comes = λ early. elim (comes_by (fifo_op_at ops p).ended left entered some_time entered_is) as (λ _. (q : ℕ) × IsOf ops v q × ((fifo_op_at ops q).ended ≡ Some entered)) [
            | inl is ↦ (p, inl puts, is)
            | inr is ↦ (d, inr takes, ends ∙ ap (λ n. Some n) (sym is))
          ];
          goes = (takes, ends, some_time, omega (arith, leaving_is, invoked_is), elim (either_max from invoked leaving leaving_is) as (λ _. (leaving ≡ (fifo_op_at ops d).invoked) ⊎ (leaving ≡ from)) [ inl a ↦ inl (a ∙ invoked_is) | inr b ↦ inr b ]);
        };
        fair = record {
          enters = omega (arith, entered_is, begin, order);
          leaves = omega (arith, leaving_is, order, order_d);
          passes = omega (arith, leaving_is);
          soon = soon;
        };
      }
