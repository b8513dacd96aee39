-- When no value has to be in the queue.
use Rattle.std.proofs.Common.{◌≡◌, ℕ, ◌+◌, ◌<◌, ◌≤◌, Option, Some, None, List, [], ◌∷◌, ◌++◌, length, map, max, refl, sym, ap, subst, ◌∙◌, inl, inr, arith}
use Rattle.std.specs.Prelude.{◌⊎◌}
use Rattle.std.proofs.lemmas.Bool.{cases_lt}
use Rattle.jh_fifo.specs.declared.operations.FifoCall.TheVariants.{Empty}
use Rattle.jh_fifo.specs.declared.operations.FifoOp.{FifoOp}
use Rattle.jh_fifo.specs.declared.spans.Span.{Span}
use Rattle.jh_fifo.specs.Order.{fifo_op_at, no_fifo_op, IsOverBefore}
use Rattle.jh_fifo.specs.Reasons.{call_at, Dequeues, TakenOnce, IsInQueue, IsNeverEmpty}
use Rattle.jh_fifo.specs.Sorted.{key_entry_at, AreSortedKeys}
use Rattle.jh_fifo.specs.Times.{never, LastsTo}
use Rattle.jh_fifo.specs.Spans.{no_span, span_at, IsValueSpan, IsEmptySpan, IsFair, IsOfSpans, AreValues, AreSpans}
use Rattle.jh_fifo.specs.Moments.{EmptiesAreDone, IsCovered, IsFree, IsSwept, IsFilled, IsFilling}
use Rattle.jh_fifo.proofs.RunLemmas.{not_enqueue}
use Rattle.jh_fifo.proofs.SortedLemmas.{key_at, length_map}
use Rattle.jh_fifo.proofs.LineLemmas.{index_cases, index_front, index_last, span_front, span_last}
use Rattle.jh_fifo.proofs.LayoutLemmas.{done_inside}
use Rattle.jh_fifo.proofs.SpanLemmas.{goes_or_stays, left_bound}

module _ (values : List Span) (entered : List (ℕ × ℕ)) (sorted : AreSortedKeys (map (λ span. span.entered) values) entered) where
  pub inside : (k : ℕ) → k < length entered → (key_entry_at entered k).1 < length values
  inside k low = let a = (sorted.each k low).0 in let b = length_map (λ (span : Span). span.entered) values in omega (arith, a, b)

  key : (k : ℕ) → k < length entered → (key_entry_at entered k).0 ≡ (span_at values (key_entry_at entered k).1).entered
  key k low = (sorted.each k low).1 ∙ key_at (λ (span : Span). span.entered) no_span values (key_entry_at entered k).1 (inside k low)

  pub covered_more : (n start at next : ℕ) → n < length entered → (span_at values (key_entry_at entered n).1).entered < at → next ≡ max at (span_at values (key_entry_at entered n).1).leaving
      → ((place : ℕ) → start ≤ place → place < at → IsCovered values place) → (place : ℕ) → start ≤ place → place < next → IsCovered values place
  covered_more n start at next low lt is covered place above below = elim (cases_lt place at) as (λ _. IsCovered values place) [
    | inl old ↦ covered place above old
    | inr ge ↦ ((key_entry_at entered n).1, inside n low, omega (arith, lt, ge), omega (arith, is, below, ge))
  ]

  pub swept_more : (n at next : ℕ) → next ≡ max at (span_at values (key_entry_at entered n).1).leaving → IsSwept values entered n at → IsSwept values entered (n + 1) next
  swept_more n at next is swept k lt low = elim (cases_lt k n) as (λ _. (span_at values (key_entry_at entered k).1).leaving ≤ next) [
    | inl old ↦ (let a = swept k old low in omega (arith, a, is))
    | inr ge ↦ (let same : n ≡ k = omega (arith, lt, ge) in subst (λ i. (span_at values (key_entry_at entered i).1).leaving ≤ next) same (omega (arith, is)))
  ]

  -- all that entered before is gone through
  pub is_free : (n at : ℕ) → IsSwept values entered n at → (n < length entered → at ≤ (span_at values (key_entry_at entered n).1).entered) → IsFree values at
  is_free n at swept stops i low lt =
      let r = sorted.whole i (let b = length_map (λ (span : Span). span.entered) values in omega (arith, low, b)) in
      elim (cases_lt r.0 n) as (λ _. (span_at values i).leaving ≤ at) [
        | inl passed ↦ subst (λ k. (span_at values k).leaving ≤ at) r.2 (swept r.0 passed r.1)
        | inr ge ↦
            let n_low : n < length entered = omega (arith, ge, r.1) in
            let a = stops n_low in
            let b = sorted.rise n r.0 ge r.1 in
            let d = key n n_low in
            let e = key r.0 r.1 in
            let f : (span_at values (key_entry_at entered r.0).1).entered ≡ (span_at values i).entered = ap (λ k. (span_at values k).entered) r.2 in
            absurd (omega (arith, a, b, d, e, f, lt))
      ]

module _ (ops : List FifoOp) (once : TakenOnce ops) where
  value_inside : (span : Span) → IsValueSpan ops span → IsFair span → (at : ℕ) → span.entered < at → at < span.leaving → (value : ℕ) × IsInQueue ops at value
  value_inside span value fair at lt gt =
      let bound = left_bound ops span value in
      let leaves = fair.leaves in
      let x = value.comes (omega (arith, lt, gt, bound, leaves)) in (
        value.value,
        (
          (x.0, x.1, subst (λ e. IsOverBefore e at) (sym x.2) lt),
          elim (goes_or_stays ops span value) as (λ _. (d : ℕ) → Dequeues ops value.value d → at < (fifo_op_at ops d).invoked) [
            | inl stays ↦ λ d is. absurd (stays.1 d is)
            | inr goes ↦ λ d is. subst (λ e. at < (fifo_op_at ops e).invoked) (once value.value goes.0 d goes.2 is) (elim goes.6 as (λ _. at < (fifo_op_at ops goes.0).invoked) [
              | inl same ↦ subst (λ n. at < n) same gt
              | inr same ↦ (let a = fair.enters in absurd (omega (arith, a, lt, gt, same)))
            ])
          ],
        ),
      )

  module _ (values : List Span) (are : AreValues ops values) where
    pub covered_inside : (at : ℕ) → IsCovered values at → (value : ℕ) × IsInQueue ops at value
    covered_inside at covered = value_inside (span_at values covered.0) (are.each covered.0 covered.1) (are.fair covered.0 covered.1) at covered.2 covered.3

    module _ (entered invoked : List (ℕ × ℕ)) (by_invoked : AreSortedKeys (map (λ op. op.invoked) ops) invoked) where
      pub filling_none : IsFilling ops values entered invoked 0 values 0 0
      filling_none = record {
        filled = record {
          each = λ i low. inl (are.each i low);
          fair = are.fair;
          apart = are.apart;
          free = λ i j low_i low_j empty lt. let value = are.each i low_i in absurd (not_enqueue value.value (sym value.enqueues ∙ empty));
          kept = λ m low. (m, low, refl);
          known = λ i low. inl (i, low, refl);
          found = λ k low in_it empty. absurd (omega (arith, low));
        };
        swept = λ k low in_it. absurd (omega (arith, low));
        covered = λ k place above low le lt. absurd (omega (arith, lt));
      }

      pub inside_ops : (k : ℕ) → k < length invoked → (key_entry_at invoked k).1 < length ops
      inside_ops k low = let a = (by_invoked.each k low).0 in let b = length_map (λ (op : FifoOp). op.invoked) ops in omega (arith, a, b)

      invoked_is : (k : ℕ) → k < length invoked → (key_entry_at invoked k).0 ≡ (fifo_op_at ops (key_entry_at invoked k).1).invoked
      invoked_is k low = (by_invoked.each k low).1 ∙ key_at (λ (op : FifoOp). op.invoked) no_fifo_op ops (key_entry_at invoked k).1 (inside_ops k low)

      module _ (n : ℕ) (spans : List Span) (passed at : ℕ) (so : IsFilling ops values entered invoked n spans passed at) where
        pub filling_skip : (call_at ops (key_entry_at invoked n).1 ≡ Empty → ⊥) → IsFilling ops values entered invoked (n + 1) spans passed at
        filling_skip not = record {
          filled = record {
            each = so.filled.each;
            fair = so.filled.fair;
            apart = so.filled.apart;
            free = so.filled.free;
            kept = so.filled.kept;
            known = λ i low. elim (so.filled.known i low) as (λ _. ((m : ℕ) × (m < length values) × (span_at spans i ≡ span_at values m)) ⊎ ((k : ℕ) × (k < n + 1) × (k < length invoked) × ((key_entry_at invoked k).1 ≡ (span_at spans i).place) × IsEmptySpan ops (span_at spans i))) [
              | inl value ↦ inl value
              | inr empty ↦ inr (empty.0, omega (arith, empty.1), empty.2, empty.3, empty.4)
            ];
            found = λ k low in_it empty. elim (cases_lt k n) as (λ _. (i : ℕ) × (i < length spans) × ((span_at spans i).place ≡ (key_entry_at invoked k).1)) [
              | inl lt ↦ so.filled.found k lt in_it empty
              | inr ge ↦ (let same : k ≡ n = omega (arith, low, ge) in absurd (not (subst (λ i. call_at ops (key_entry_at invoked i).1 ≡ Empty) same empty)))
            ];
          };
          swept = so.swept;
          covered = λ k place above low le lt. so.covered k place (omega (arith, above)) low le lt;
        }

        pub filling_all : length invoked ≤ n → AreSpans ops spans
        filling_all end = record {
          each = so.filled.each;
          fair = so.filled.fair;
          apart = so.filled.apart;
          free = so.filled.free;
          whole = λ p done. elim (are.whole p done) as (λ _. IsOfSpans spans p) [
            | inl empty ↦
                let r = by_invoked.whole p (let a = done_inside ops p done in let b = length_map (λ (op : FifoOp). op.invoked) ops in omega (arith, a, b)) in
                let f = so.filled.found r.0 (omega (arith, end, r.1)) r.1 (ap (call_at ops) r.2 ∙ empty) in
                (f.0, f.1, inl (f.2 ∙ r.2))
            | inr m ↦ (let k = so.filled.kept m.0 m.1 in (
              k.0,
              k.1,
              elim m.2 as (λ _. ((span_at spans k.0).place ≡ p) ⊎ ((span_at spans k.0).dequeue ≡ Some p)) [
                | inl own ↦ inl (ap (λ s. s.place) k.2 ∙ own)
                | inr other ↦ inr (ap (λ s. s.dequeue) k.2 ∙ other)
              ],
            ))
          ];
        }

        -- a dequeue that found the queue empty, and the first place from there at which no value has to be in it
        module _ (p : ℕ) (low : n < length invoked) (p_is : p ≡ (key_entry_at invoked n).1) (empty : call_at ops p ≡ Empty) (start next passed' : ℕ) (start_is : start ≡ max at (fifo_op_at ops p).invoked)
            (later : start ≤ next) (covered : (place : ℕ) → start ≤ place → place < next → IsCovered values place) (free : IsFree values next) (swept : IsSwept values entered passed' next) where
          invoked_at : (key_entry_at invoked n).0 ≡ (fifo_op_at ops p).invoked
          invoked_at = invoked_is n low ∙ ap (λ q. (fifo_op_at ops q).invoked) (sym p_is)

          all_covered : (k place : ℕ) → n ≤ k → k < length invoked → (key_entry_at invoked k).0 ≤ place → place < next → IsCovered values place
          all_covered k place above k_low le lt = elim (cases_lt place start) as (λ _. IsCovered values place) [
            | inl early ↦
                let a = by_invoked.rise n k above k_low in
                so.covered k place above k_low le (omega (arith, early, start_is, a, le, invoked_at))
            | inr ge ↦ covered place ge lt
          ]

          pub is_never : (over : IsOverBefore (fifo_op_at ops p).ended next) → IsNeverEmpty ops p
          is_never over = never_if (fifo_op_at ops p).ended refl over where
            never_if : (ended : Option ℕ) → (fifo_op_at ops p).ended ≡ ended → IsOverBefore ended next → IsNeverEmpty ops p
            never_if None is h = absurd h
            never_if (Some end) is h = (empty, (end, is, λ place above below. covered_inside place (all_covered n place (omega arith) low (let a = invoked_at in omega (arith, a, above)) (omega (arith, below, h)))))

          module _ (done : EmptiesAreDone ops) (bound : (end : ℕ) → (fifo_op_at ops p).ended ≡ Some end → end < never) (lasts : LastsTo (fifo_op_at ops p).ended next) (new : Span) (new_is : new ≡ record { place = p; dequeue = None; from = next; entered = next; leaving = next; left = next }) where
            abbrev here : Span
            here = record { place = p; dequeue = None; from = next; entered = next; leaving = next; left = next }

            p_inside : p < length ops
            p_inside = subst (λ q. q < length ops) (sym p_is) (inside_ops n low)

            soon : next < never
            soon = soon_if (fifo_op_at ops p).ended refl where
              soon_if : (ended : Option ℕ) → (fifo_op_at ops p).ended ≡ ended → next < never
              soon_if None is = absurd (done p p_inside empty is)
              soon_if (Some end) is = elim (cases_lt end next) as (λ _. next < never) [
                | inl lt ↦ absurd (lasts (subst (λ e. IsOverBefore e next) (sym is) lt))
                | inr ge ↦ (let a = bound end is in omega (arith, a, ge))
              ]

            here_empty : IsEmptySpan ops here
            here_empty = record {
              empty = empty;
              done = done p p_inside empty;
              none = refl;
              begins = omega (arith, start_is, later);
              lasts = lasts;
              entered = refl;
              leaving = refl;
              left = refl;
            }

            abbrev more : List Span
            more = spans ++ here ∷ []

            new_place : (i : ℕ) → i < length spans → (span_at spans i).place ≡ p → ⊥
            new_place i i_low is = elim (so.filled.known i i_low) as (λ _. ⊥) [
              | inl m ↦ (let value = are.each m.0 m.1 in not_enqueue value.value (sym value.enqueues ∙ ap (call_at ops) (sym (ap (λ s. s.place) m.2) ∙ is) ∙ empty))
              | inr k ↦ by_invoked.apart k.0 n k.1 low (k.3 ∙ is ∙ p_is)
            ]

            filled_more : IsFilled ops values invoked (n + 1) more
            filled_more = record {
              each = λ i i_low. elim (index_cases spans here i i_low) as (λ _. IsValueSpan ops (span_at more i) ⊎ IsEmptySpan ops (span_at more i)) [
                | inl old ↦ subst (λ s. IsValueSpan ops s ⊎ IsEmptySpan ops s) (sym old.1) (so.filled.each i old.0)
                | inr end ↦ inr (subst (λ s. IsEmptySpan ops s) (sym end.1) here_empty)
              ];
              fair = λ i i_low. elim (index_cases spans here i i_low) as (λ _. IsFair (span_at more i)) [
                | inl old ↦ subst (λ s. IsFair s) (sym old.1) (so.filled.fair i old.0)
                | inr end ↦ subst (λ s. IsFair s) (sym end.1) (record { enters = omega arith; leaves = omega arith; passes = omega arith; soon = soon })
              ];
              apart = λ i j i_low j_low is. elim (index_cases spans here i i_low) as (λ _. i ≡ j) [
                | inl a ↦ elim (index_cases spans here j j_low) as (λ _. i ≡ j) [
                  | inl b ↦ so.filled.apart i j a.0 b.0 (sym (ap (λ s. s.place) a.1) ∙ is ∙ ap (λ s. s.place) b.1)
                  | inr b ↦ absurd (new_place i a.0 (sym (ap (λ s. s.place) a.1) ∙ is ∙ ap (λ s. s.place) b.1))
                ]
                | inr a ↦ elim (index_cases spans here j j_low) as (λ _. i ≡ j) [
                  | inl b ↦ absurd (new_place j b.0 (sym (ap (λ s. s.place) b.1) ∙ sym is ∙ ap (λ s. s.place) a.1))
                  | inr b ↦ a.0 ∙ sym b.0
                ]
              ];
              free = λ i j i_low j_low is lt. elim (index_cases spans here j j_low) as (λ _. (span_at more j).leaving ≤ (span_at more i).from) [
                | inr b ↦ (let x = ap (λ s. s.leaving) b.1 in let y = ap (λ s. s.entered) b.1 in omega (arith, x, y, lt))
                | inl b ↦ elim (index_cases spans here i i_low) as (λ _. (span_at more j).leaving ≤ (span_at more i).from) [
                  | inl a ↦
                      let x = ap (λ s. s.from) a.1 in
                      let y = ap (λ s. s.entered) b.1 in
                      let z = ap (λ s. s.leaving) b.1 in
                      let h = so.filled.free i j a.0 b.0 (ap (λ s. call_at ops s.place) (sym a.1) ∙ is) (omega (arith, x, y, lt)) in
                      omega (arith, h, x, z)
                  | inr a ↦
                      let x = ap (λ s. s.from) a.1 in
                      let y = ap (λ s. s.entered) b.1 in
                      let z = ap (λ s. s.leaving) b.1 in
                      elim (so.filled.known j b.0) as (λ _. (span_at more j).leaving ≤ (span_at more i).from) [
                        | inl m ↦
                            let u = ap (λ s. s.entered) m.2 in
                            let v = ap (λ s. s.leaving) m.2 in
                            let h = free m.0 m.1 (omega (arith, x, y, u, lt)) in
                            omega (arith, h, x, z, v)
                        | inr k ↦ (let u = k.4.entered in let v = k.4.leaving in omega (arith, x, y, z, u, v, lt))
                      ]
                ]
              ];
              kept = λ m m_low. let r = so.filled.kept m m_low in (r.0, index_front spans here r.0 r.1, span_front spans here r.0 r.1 ∙ r.2);
              known = λ i i_low. elim (index_cases spans here i i_low) as (λ _. ((m : ℕ) × (m < length values) × (span_at more i ≡ span_at values m)) ⊎ ((k : ℕ) × (k < n + 1) × (k < length invoked) × ((key_entry_at invoked k).1 ≡ (span_at more i).place) × IsEmptySpan ops (span_at more i))) [
                | inl old ↦ elim (so.filled.known i old.0) as (λ _. ((m : ℕ) × (m < length values) × (span_at more i ≡ span_at values m)) ⊎ ((k : ℕ) × (k < n + 1) × (k < length invoked) × ((key_entry_at invoked k).1 ≡ (span_at more i).place) × IsEmptySpan ops (span_at more i))) [
                  | inl m ↦ inl (m.0, m.1, old.1 ∙ m.2)
                  | inr k ↦ inr (k.0, omega (arith, k.1), k.2, k.3 ∙ sym (ap (λ s. s.place) old.1), subst (λ s. IsEmptySpan ops s) (sym old.1) k.4)
                ]
                | inr end ↦ inr (n, omega arith, low, sym p_is ∙ sym (ap (λ s. s.place) end.1), subst (λ s. IsEmptySpan ops s) (sym end.1) here_empty)
              ];
              found = λ k k_low in_it is. elim (cases_lt k n) as (λ _. (i : ℕ) × (i < length more) × ((span_at more i).place ≡ (key_entry_at invoked k).1)) [
                | inl lt ↦ (let r = so.filled.found k lt in_it is in (r.0, index_front spans here r.0 r.1, ap (λ s. s.place) (span_front spans here r.0 r.1) ∙ r.2))
                | inr ge ↦ (let same : n ≡ k = omega (arith, k_low, ge) in (length spans, index_last spans here, ap (λ s. s.place) (span_last spans here) ∙ p_is ∙ ap (λ i. (key_entry_at invoked i).1) same))
              ];
            }

            pub filling_more : IsFilling ops values entered invoked (n + 1) (spans ++ new ∷ []) passed' next
            filling_more = record {
              filled = subst (λ s. IsFilled ops values invoked (n + 1) (spans ++ s ∷ [])) (sym new_is) filled_more;
              swept = swept;
              covered = λ k place above k_low le lt. all_covered k place (omega (arith, above)) k_low le lt;
            }
