-- Spans in their turn, and two that are crossed.
use Rattle.std.proofs.Common.{◌≡◌, ℕ, ◌<◌, ◌≤◌, Option, Some, None, List, refl, sym, ap, subst, ◌∙◌, inl, inr, arith}
use Rattle.std.specs.Prelude.{◌⊎◌, MatchOption}
use Rattle.jh_fifo.specs.declared.operations.FifoOp.{FifoOp}
use Rattle.jh_fifo.specs.declared.spans.Span.{Span}
use Rattle.jh_fifo.specs.Order.{fifo_op_at, IsKnownDone, IsOverBefore}
use Rattle.jh_fifo.specs.Reasons.{call_at, Enqueues, Dequeues, WasThere, GoesBefore, AreCrossedAt}
use Rattle.jh_fifo.specs.Times.{never, LastsTo}
use Rattle.jh_fifo.specs.Spans.{span_at, IsValueSpan, IsEmptySpan, AreSpans}
use Rattle.jh_fifo.specs.Lines.{IsMovedSpan, IsLined, AreCrossedSpans}
use Rattle.jh_fifo.specs.Layout.{IsPlaced, CanGoThrough}
use Rattle.jh_fifo.proofs.LayoutLemmas.{under}

match_map : (o : Option ℕ) (P P' : Type 0) (Q Q' : ℕ → Type 0) → (P → P') → ((d : ℕ) → Q d → Q' d) → MatchOption o P Q → MatchOption o P' Q'
match_map None P P' Q Q' f g h = f h
match_map (Some d) P P' Q Q' f g h = g d h

-- none, or some
pub match_cases : (o : Option ℕ) (P : Type 0) (Q : ℕ → Type 0) → MatchOption o P Q → ((o ≡ None) × P) ⊎ ((d : ℕ) × (o ≡ Some d) × Q d)
match_cases None P Q h = inl (refl, h)
match_cases (Some d) P Q h = inr (d, refl, h)

pub ends_at : (ended : Option ℕ) (end at : ℕ) → ended ≡ Some end → end < at → IsOverBefore ended at
ends_at ended end at is low = subst (λ e. IsOverBefore e at) (sym is) low

lasts_if : (ended : Option ℕ) (end at : ℕ) → ended ≡ Some end → at ≤ end → LastsTo ended at
lasts_if ended end at is le = λ h. over (subst (λ e. IsOverBefore e at) is h) where
  over : end < at → ⊥
  over lt = omega (arith, lt, le)

module _ (ops : List FifoOp) where
  abbrev Goes : ℕ → Span → Type 0
  Goes value span = (d : ℕ) × (span.dequeue ≡ Some d) × Dequeues ops value d × ((fifo_op_at ops d).ended ≡ Some span.left) × (span.left < never) × ((fifo_op_at ops d).invoked ≤ span.leaving) × ((span.leaving ≡ (fifo_op_at ops d).invoked) ⊎ (span.leaving ≡ span.from))

  abbrev Stays : ℕ → Span → Type 0
  Stays value span = (span.dequeue ≡ None) × ((d : ℕ) → Dequeues ops value d → ⊥) × (span.leaving ≡ never) × (span.left ≡ never)

  pub goes_or_stays : (span : Span) (value : IsValueSpan ops span) → Stays value.value span ⊎ Goes value.value span
  goes_or_stays span value = elim (match_cases span.dequeue _ _ value.goes) as (λ _. Stays value.value span ⊎ Goes value.value span) [
    | inl a ↦ inl (a.0, a.1.0, a.1.1, a.1.2)
    | inr b ↦ inr (b.0, b.1, b.2.0, b.2.1, b.2.2, b.2.3, b.2.4)
  ]

  pub left_bound : (span : Span) → IsValueSpan ops span → span.left ≤ never
  left_bound span value = elim (goes_or_stays span value) as (λ _. span.left ≤ never) [
    | inl a ↦ (let h = a.3 in omega (arith, h))
    | inr b ↦ (let h = b.4 in omega (arith, h))
  ]

  value_placed : (old new : Span) → IsValueSpan ops old → IsMovedSpan old new → IsPlaced ops new
  value_placed old new value moves = record {
    kind = inl (record {
      value = value.value;
      enqueues = subst (λ p. Enqueues ops value.value p) (sym moves.place) value.enqueues;
      goes = subst (λ o. MatchOption o (never ≤ new.leaving) (λ d. Dequeues ops value.value d × (new.leaving < never) × ((fifo_op_at ops d).invoked ≤ new.leaving) × LastsTo (fifo_op_at ops d).ended new.leaving)) (sym moves.dequeue)
          (match_map old.dequeue _ (never ≤ new.leaving) _ (λ d. Dequeues ops value.value d × (new.leaving < never) × ((fifo_op_at ops d).invoked ≤ new.leaving) × LastsTo (fifo_op_at ops d).ended new.leaving)
          (λ h. let a = h.1 in let b = moves.leaving in omega (arith, a, b))
          (λ d h. (
            h.0,
            (let a = h.2 in let b = moves.left in omega (arith, a, b)),
            (let a = h.3 in let b = moves.leaving in omega (arith, a, b)),
            lasts_if (fifo_op_at ops d).ended old.left new.leaving h.1 moves.left,
          )) value.goes);
    });
    begins = subst (λ p. (fifo_op_at ops p).invoked ≤ new.from) (sym moves.place) (let a = value.begins in let b = moves.from in omega (arith, a, b));
    lasts = subst (λ p. LastsTo (fifo_op_at ops p).ended new.from) (sym moves.place) (under (fifo_op_at ops old.place).ended old.entered new.from value.lasts moves.entered);
    turn = moves.passes;
    soon = moves.soon;
  }

  empty_placed : (old new : Span) → IsEmptySpan ops old → IsMovedSpan old new → IsPlaced ops new
  empty_placed old new empty moves =
      let from_is : new.from ≡ old.from = (let a = moves.from in let b = moves.entered in let d = empty.entered in omega (arith, a, b, d)) in
      let leaving_is : new.leaving ≡ old.from = (let a = moves.leaving in let b = moves.left in let d = empty.left in let e = empty.leaving in omega (arith, a, b, d, e)) in
      record {
        kind = inr (record {
          empty = ap (λ p. call_at ops p) moves.place ∙ empty.empty;
          done = subst (λ p. IsKnownDone ops p) (sym moves.place) empty.done;
          none = moves.dequeue ∙ empty.none;
          at_once = leaving_is ∙ sym from_is;
        });
        begins = subst (λ p. (fifo_op_at ops p).invoked ≤ new.from) (sym moves.place) (let a = empty.begins in omega (arith, a, from_is));
        lasts = subst (λ p. LastsTo (fifo_op_at ops p).ended new.from) (sym moves.place) (subst (λ n. LastsTo (fifo_op_at ops old.place).ended n) (sym from_is) empty.lasts);
        turn = moves.passes;
        soon = moves.soon;
      }

  module _ (spans : List Span) (are : AreSpans ops spans) where
    pub turn_of : (turn : List Span) → IsLined spans turn → CanGoThrough ops turn
    turn_of turn lined = record {
      each = λ i low. let r = lined.each i low in elim (are.each r.0 r.1) as (λ _. IsPlaced ops (span_at turn i)) [
        | inl value ↦ value_placed (span_at spans r.0) (span_at turn i) value r.2
        | inr empty ↦ empty_placed (span_at spans r.0) (span_at turn i) empty r.2
      ];
      come_in_turn = lined.come_in_turn;
      go_in_turn = lined.go_in_turn;
      apart = lined.apart;
      whole = λ p done.
          let m = are.whole p done in
          let r = lined.whole m.0 m.1 in (
            r.0,
            r.1,
            elim m.2 as (λ _. ((span_at turn r.0).place ≡ p) ⊎ ((span_at turn r.0).dequeue ≡ Some p)) [
              | inl own ↦ inl (r.2.place ∙ own)
              | inr other ↦ inr (r.2.dequeue ∙ other)
            ],
          );
    }

    -- two values each of which goes before the other
    module _ (taken_once : (v d e : ℕ) → Dequeues ops v d → Dequeues ops v e → d ≡ e) (first second : ℕ) (crossed : AreCrossedSpans spans first second) where
      abbrev one : Span
      one = span_at spans first

      abbrev other : Span
      other = span_at spans second

      there : (span : Span) (value : IsValueSpan ops span) → WasThere ops value.value
      there span value = (
        span.place,
        value.enqueues,
        elim value.was as (λ _. IsKnownDone ops span.place ⊎ ((d : ℕ) × Dequeues ops value.value d)) [
          | inl done ↦ inl done
          | inr r ↦ elim (goes_or_stays span value) as (λ _. IsKnownDone ops span.place ⊎ ((d : ℕ) × Dequeues ops value.value d)) [
            | inl none ↦ absurd (none_is_some r.0 (sym none.0 ∙ r.1))
            | inr goes ↦ inr (goes.0, goes.2)
          ]
        ],
      ) where
        none_is_some : (d : ℕ) → ◌≡◌ {A = Option ℕ} None (Some d) → ⊥
        none_is_some d e = cc

      forth : (a : IsValueSpan ops one) (b : IsValueSpan ops other) → GoesBefore ops a.value b.value
      forth a b =
          let lt = crossed.enters in
          let soon = (are.fair second crossed.other).soon in
          let x = a.comes (omega (arith, lt, soon)) in
          inl (x.0, other.place, x.1, b.enqueues, ends_at (fifo_op_at ops x.0).ended one.entered (fifo_op_at ops other.place).invoked x.2 (subst (λ n. one.entered < n) b.begins lt))

      back : (a : IsValueSpan ops one) (b : IsValueSpan ops other) → GoesBefore ops b.value a.value
      back a b = elim (goes_or_stays other b) as (λ _. GoesBefore ops b.value a.value) [
        | inl none ↦
            let x = none.3 in
            let y = crossed.leaves in
            let z = (are.fair first crossed.one).leaves in
            let w = left_bound one a in
            absurd (omega (arith, x, y, z, w))
        | inr goes ↦ elim (goes_or_stays one a) as (λ _. GoesBefore ops b.value a.value) [
          | inl stays ↦ inr (goes.0, goes.2, λ next is. absurd (stays.1 next is))
          | inr leaves ↦ elim leaves.6 as (λ _. GoesBefore ops b.value a.value) [
            | inl is ↦ inr (
              goes.0,
              goes.2,
              λ next takes.
                  let same : leaves.0 ≡ next = taken_once a.value leaves.0 next leaves.2 takes in
                  ends_at (fifo_op_at ops goes.0).ended other.left (fifo_op_at ops next).invoked goes.3 (subst (λ n. other.left < (fifo_op_at ops n).invoked) same (subst (λ n. other.left < n) is crossed.leaves)),
            )
            | inr is ↦ inl (goes.0, one.place, inr goes.2, a.enqueues, ends_at (fifo_op_at ops goes.0).ended other.left (fifo_op_at ops one.place).invoked goes.3 (subst (λ n. other.left < n) (is ∙ a.begins) crossed.leaves))
          ]
        ]
      ]

      pub crossed_of : AreCrossedAt ops one.place other.place
      crossed_of = elim (are.each second crossed.other) as (λ _. AreCrossedAt ops one.place other.place) [
        | inr empty ↦
            let x = are.free second first crossed.other crossed.one empty.empty crossed.enters in
            let y = crossed.leaves in
            let z = empty.left in
            absurd (omega (arith, x, y, z))
        | inl b ↦ elim (are.each first crossed.one) as (λ _. AreCrossedAt ops one.place other.place) [
          | inr empty ↦
              let x = crossed.enters in
              let y = crossed.leaves in
              let z = empty.entered in
              let w = empty.leaving in
              let f = are.fair second crossed.other in
              let p = f.passes in
              let l = f.leaves in
              absurd (omega (arith, x, y, z, w, p, l))
          | inl a ↦ (a.value, b.value, a.enqueues, b.enqueues, (there one a, there other b, forth a b, back a b))
        ]
      ]
