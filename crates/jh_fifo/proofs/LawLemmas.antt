-- Why there is no order: each reason excludes every order.
use Rattle.std.proofs.Common.{◌≡◌, ℕ, ◌≤◌, ◌<◌, true, Option, Some, None, List, [], ◌∷◌, refl, sym, ap, subst, ◌∙◌, inl, inr, arith}
use Rattle.std.specs.Prelude.{◌⊎◌, ◌≢◌}
use Rattle.std.proofs.lemmas.Bool.{false≢true, cases_Bool}
use Rattle.jh_fifo.specs.declared.operations.FifoCall.TheVariants.{Dequeue, Empty}
use Rattle.jh_fifo.specs.declared.operations.FifoOp.{FifoOp}
use Rattle.jh_fifo.specs.Order.{fifo_op_at, has_place, PlaceStandsBefore, HasNoPlaceTwice, IsOverBefore, PrecedesOp, IsFifoOrder}
use Rattle.jh_fifo.specs.Reasons.{call_at, Enqueues, Dequeues, IsOf, EnqueuedOnce, DequeuesAreDone, WasThere, GoesBefore, EndsTooSoon, ComesFromNowhere, AreOfOne, ComesTooSoon, AreCrossed, IsNeverEmpty}
use Rattle.jh_fifo.proofs.ListLemmas.{before_first, before_second, before_itself, before_trans, before_total, tail_once, not_both}
use Rattle.jh_fifo.proofs.RunLemmas.{enqueued, enqueued_before, enqueued_once, from_where, in_turn, dequeued_once, emptied, same_enqueue}

pub ends_done : (ended : Option ℕ) (at : ℕ) → IsOverBefore ended at → ended ≢ None
ends_done None at h = absurd h
ends_done (Some end) at h = λ e. some_none end e where
  some_none : (x : ℕ) → ◌≡◌ {A = Option ℕ} (Some x) None → ⊥
  some_none x e = cc

pub some_done : (ended : Option ℕ) (end : ℕ) → ended ≡ Some end → ended ≢ None
some_done ended end is = λ e. some_none end (sym is ∙ e) where
  some_none : (x : ℕ) → ◌≡◌ {A = Option ℕ} (Some x) None → ⊥
  some_none x e = cc

module _ (ops : List FifoOp) (order : List ℕ) (orders : IsFifoOrder ops order) where
  twice : (p : ℕ) → PlaceStandsBefore order p p → ⊥
  twice p h = before_itself order p orders.distinct h

  trans : (p q r : ℕ) → PlaceStandsBefore order p q → PlaceStandsBefore order q r → PlaceStandsBefore order p r
  trans p q r h k = before_trans order p q r orders.distinct h k

  not_both_ways : (p q : ℕ) → PlaceStandsBefore order p q → PlaceStandsBefore order q p → ⊥
  not_both_ways p q h k = twice p (trans p q p h k)

  done_there : (p at : ℕ) → IsOverBefore (fifo_op_at ops p).ended at → has_place order p ≡ true
  done_there p at h = orders.whole p (ends_done (fifo_op_at ops p).ended at h)

  pub too_soon : (p : ℕ) → EndsTooSoon ops p → ⊥
  too_soon p h = twice p (orders.precedence p p h (done_there p _ h))

  pub first_in : (v d : ℕ) → Dequeues ops v d → has_place order d ≡ true → (p : ℕ) × Enqueues ops v p × PlaceStandsBefore order p d
  first_in v d is there = elim (from_where ops order [] orders.last v d orders.runs there is) as (λ _. (p : ℕ) × Enqueues ops v p × PlaceStandsBefore order p d) [
    | inl held ↦ absurd (false≢true held)
    | inr r ↦ r
  ]

  pub all_out : (v p q : ℕ) → Enqueues ops v p → call_at ops q ≡ Empty → PlaceStandsBefore order p q → (d : ℕ) × Dequeues ops v d × PlaceStandsBefore order d q
  all_out v p q is empty before = emptied ops order [] orders.last v q orders.runs orders.distinct (before_second order p q before) empty (inr (p, is, before))

  -- the operation that was invoked last, of one and those in front of it
  last_invoked : (xs : List ℕ) (p : ℕ) → HasNoPlaceTwice xs → has_place xs p ≡ true
      → (y : ℕ) × ((y ≡ p) ⊎ PlaceStandsBefore xs y p) × ((z : ℕ) → (z ≡ p) ⊎ PlaceStandsBefore xs z p → (fifo_op_at ops z).invoked ≤ (fifo_op_at ops y).invoked)
  last_invoked [] p once there = absurd (false≢true there)
  last_invoked (x ∷ xs) p once there =
      let Goal : Type 0 = (y : ℕ) × ((y ≡ p) ⊎ PlaceStandsBefore (x ∷ xs) y p) × ((z : ℕ) → (z ≡ p) ⊎ PlaceStandsBefore (x ∷ xs) z p → (fifo_op_at ops z).invoked ≤ (fifo_op_at ops y).invoked) in
      elim (cases_Bool (has_place xs p)) as (λ _. Goal) [
        | inl later ↦ let r = last_invoked xs p (tail_once x xs once) later in elim (le_or (fifo_op_at ops x).invoked (fifo_op_at ops r.0).invoked) as (λ _. Goal) [
          | inl low ↦ (
            r.0,
            elim r.1 as (λ _. (r.0 ≡ p) ⊎ PlaceStandsBefore (x ∷ xs) r.0 p) [ inl e ↦ inl e | inr b ↦ inr (inr b) ],
            λ z h. elim h as (λ _. (fifo_op_at ops z).invoked ≤ (fifo_op_at ops r.0).invoked) [
              | inl e ↦ r.2 z (inl e)
              | inr b ↦ elim b as (λ _. (fifo_op_at ops z).invoked ≤ (fifo_op_at ops r.0).invoked) [ inl now ↦ subst (λ w. (fifo_op_at ops w).invoked ≤ (fifo_op_at ops r.0).invoked) now.0 low | inr more ↦ r.2 z (inr more) ]
            ],
          )
          | inr high ↦ (
            x,
            inr (inl (refl, later)),
            λ z h. elim h as (λ _. (fifo_op_at ops z).invoked ≤ (fifo_op_at ops x).invoked) [
              | inl e ↦ le_trans _ _ _ (r.2 z (inl e)) high
              | inr b ↦ elim b as (λ _. (fifo_op_at ops z).invoked ≤ (fifo_op_at ops x).invoked) [ inl now ↦ subst (λ w. (fifo_op_at ops z).invoked ≤ (fifo_op_at ops w).invoked) (sym now.0) (le_self _) | inr more ↦ le_trans _ _ _ (r.2 z (inr more)) high ]
            ],
          )
        ]
        | inr none ↦ (
          p,
          inl refl,
          λ z h. elim h as (λ _. (fifo_op_at ops z).invoked ≤ (fifo_op_at ops p).invoked) [
            | inl e ↦ subst (λ w. (fifo_op_at ops z).invoked ≤ (fifo_op_at ops w).invoked) e (le_self _)
            | inr b ↦ absurd (not_both _ (elim b as (λ _. has_place xs p ≡ true) [ inl now ↦ now.1 | inr more ↦ before_second xs z p more ]) none)
          ],
        )
      ] where
        le_or : (a b : ℕ) → (a ≤ b) ⊎ (b ≤ a)
        le_or a b = grind arith

        le_trans : (a b c : ℕ) → a ≤ b → b ≤ c → a ≤ c
        le_trans a b c h k = omega (arith, h, k)

        le_self : (a : ℕ) → a ≤ a
        le_self a = omega arith

  module _ (once : EnqueuedOnce ops) where
    no_repeat : HasNoPlaceTwice (enqueued ops order)
    no_repeat = enqueued_once ops once order orders.distinct

    pub first_out : (a b p q d : ℕ) → Enqueues ops a p → Enqueues ops b q → PlaceStandsBefore order p q → Dequeues ops b d → has_place order d ≡ true → (e : ℕ) × Dequeues ops a e × PlaceStandsBefore order e d
    first_out a b p q d is_a is_b before is_d there = in_turn ops order [] orders.last a b d orders.runs no_repeat (enqueued_before ops order p q a b before is_a is_b) there is_d

  pub nowhere : DequeuesAreDone ops → (p : ℕ) → ComesFromNowhere ops p → ⊥
  nowhere done p h = let r = first_in h.0 p h.1 (orders.whole p (done h.0 p h.1)) in h.2 r.0 r.1

  module _ (once : EnqueuedOnce ops) (done : DequeuesAreDone ops) where
    -- whatever is of a value stands no earlier than its enqueue
    of_there : (v p e : ℕ) → IsOf ops v p → has_place order p ≡ true → Enqueues ops v e → (e ≡ p) ⊎ PlaceStandsBefore order e p
    of_there v p e is there is_e = elim is as (λ _. (e ≡ p) ⊎ PlaceStandsBefore order e p) [
      | inl same ↦ inl (once v e p is_e same)
      | inr takes ↦ let r = first_in v p takes there in inr (subst (λ z. PlaceStandsBefore order z p) (once v r.0 e r.1 is_e) r.2)
    ]

    enqueue_there : (v e : ℕ) → WasThere ops v → Enqueues ops v e → has_place order e ≡ true
    enqueue_there v e was is = elim was.2 as (λ _. has_place order e ≡ true) [
      | inl happened ↦ subst (λ z. has_place order z ≡ true) (once v was.0 e was.1 is) (orders.whole was.0 happened)
      | inr r ↦ let f = first_in v r.0 r.1 (orders.whole r.0 (done v r.0 r.1)) in subst (λ z. has_place order z ≡ true) (once v f.0 e f.1 is) (before_first order f.0 r.0 f.2)
    ]

    pub stands_before : (a b p q : ℕ) → WasThere ops a → WasThere ops b → GoesBefore ops a b → Enqueues ops a p → Enqueues ops b q → PlaceStandsBefore order p q
    stands_before a b p q was_a was_b goes is_p is_q =
        elim goes as (λ _. PlaceStandsBefore order p q) [
          | inl r ↦
              let same : r.1 ≡ q = once b r.1 q r.3 is_q in
              let ends : PrecedesOp ops r.0 q = subst (λ z. PrecedesOp ops r.0 z) same r.4 in
              let before : PlaceStandsBefore order r.0 q = orders.precedence r.0 q ends (enqueue_there b q was_b is_q) in
              elim (of_there a r.0 p r.2 (before_first order r.0 q before) is_p) as (λ _. PlaceStandsBefore order p q) [
                | inl e ↦ subst (λ z. PlaceStandsBefore order z q) (sym e) before
                | inr b' ↦ trans p r.0 q b' before
              ]
          | inr r ↦
              let there : has_place order r.0 ≡ true = orders.whole r.0 (done a r.0 r.1) in
              let wrong : (d : ℕ) → Dequeues ops b d → PlaceStandsBefore order d r.0 → ⊥ = λ d is_d before.
              not_both_ways d r.0 before (orders.precedence r.0 d (r.2 d is_d) (before_first order d r.0 before)) in
              elim (before_total order p q (enqueue_there a p was_a is_p) (enqueue_there b q was_b is_q)) as (λ _. PlaceStandsBefore order p q) [
                | inl e ↦
                    let is_b : Dequeues ops b r.0 = r.1 ∙ ap (λ w. Dequeue w) (same_enqueue a b (sym is_p ∙ ap (λ y. call_at ops y) e ∙ is_q)) in
                    absurd (too_soon r.0 (r.2 r.0 is_b))
                | inr either ↦ elim either as (λ _. PlaceStandsBefore order p q) [
                  | inl before ↦ before
                  | inr behind ↦ let f = first_out once b a q p r.0 is_q is_p behind r.1 there in absurd (wrong f.0 f.1 f.2)
                ]
              ]
        ]

    pub of_one : (p q : ℕ) → AreOfOne ops p q → ⊥
    of_one p q h = elim (before_total order p q (orders.whole p (done h.1.0 p h.1.1)) (orders.whole q (done h.1.0 q h.1.2))) as (λ _. ⊥) [
      | inl e ↦ h.0 e
      | inr either ↦ elim either as (λ _. ⊥) [
        | inl before ↦ dequeued_once ops order [] orders.last h.1.0 p q orders.runs (no_repeat once) before h.1.1 h.1.2
        | inr behind ↦ dequeued_once ops order [] orders.last h.1.0 q p orders.runs (no_repeat once) behind h.1.2 h.1.1
      ]
    ]

    pub early : (d e : ℕ) → ComesTooSoon ops d e → ⊥
    early d e h =
        let r = first_in h.1.0 d h.1.1 (orders.whole d (done h.1.0 d h.1.1)) in
        let before : PlaceStandsBefore order e d = subst (λ z. PlaceStandsBefore order z d) (once h.1.0 r.0 e r.1 h.1.2) r.2 in
        not_both_ways e d before (orders.precedence d e h.0 (before_first order e d before))

    pub crossed : (a b : ℕ) → AreCrossed ops a b → ⊥
    crossed a b h = not_both_ways h.0.0 h.1.0
        (stands_before a b h.0.0 h.1.0 h.0 h.1 h.2 h.0.1 h.1.1)
        (stands_before b a h.1.0 h.0.0 h.1 h.0 h.3 h.1.1 h.0.1)

    pub never_empty : (p : ℕ) → IsNeverEmpty ops p → ⊥
    never_empty p h =
        let there : has_place order p ≡ true = orders.whole p (some_done (fifo_op_at ops p).ended h.1.0 h.1.1) in
        let y = last_invoked order p orders.distinct there in
        let before_p : (z : ℕ) → PlaceStandsBefore order z y.0 → PlaceStandsBefore order z p = λ z b. elim y.1 as (λ _. PlaceStandsBefore order z p) [ inl e ↦ subst (λ w. PlaceStandsBefore order z w) e b | inr c ↦ trans z y.0 p b c ] in
        let y_there : has_place order y.0 ≡ true = elim y.1 as (λ _. has_place order y.0 ≡ true) [ inl e ↦ subst (λ w. has_place order w ≡ true) (sym e) there | inr b ↦ before_first order y.0 p b ] in
        let in_time : h.1.0 < (fifo_op_at ops y.0).invoked → ⊥ = λ late. twice y.0 (elim y.1 as (λ _. PlaceStandsBefore order y.0 y.0) [
          | inl e ↦ absurd (too_soon p (ends_at (fifo_op_at ops p).ended h.1.0 (fifo_op_at ops p).invoked h.1.1 (subst (λ w. h.1.0 < (fifo_op_at ops w).invoked) e late)))
          | inr b ↦ trans y.0 p y.0 b (orders.precedence p y.0 (ends_at (fifo_op_at ops p).ended h.1.0 (fifo_op_at ops y.0).invoked h.1.1 late) y_there)
        ]) in
        let v = h.1.2 (fifo_op_at ops y.0).invoked (y.2 p (inl refl)) (le_if (fifo_op_at ops y.0).invoked h.1.0 in_time) in
        let first : PlaceStandsBefore order v.1.0.0 y.0 = orders.precedence v.1.0.0 y.0 v.1.0.2 y_there in
        let enq : (e : ℕ) × Enqueues ops v.0 e × PlaceStandsBefore order e p = elim v.1.0.1 as (λ _. (e : ℕ) × Enqueues ops v.0 e × PlaceStandsBefore order e p) [
          | inl is ↦ (v.1.0.0, is, before_p v.1.0.0 first)
          | inr is ↦ let r = first_in v.0 v.1.0.0 is (before_first order v.1.0.0 y.0 first) in (r.0, r.1, trans r.0 v.1.0.0 p r.2 (before_p v.1.0.0 first))
        ] in
        let d = all_out v.0 enq.0 p enq.1 h.0 enq.2 in
        not_less (fifo_op_at ops y.0).invoked (fifo_op_at ops d.0).invoked (v.1.1 d.0 d.1) (y.2 d.0 (inr d.2)) where
          ends_at : (ended : Option ℕ) (end at : ℕ) → ended ≡ Some end → end < at → IsOverBefore ended at
          ends_at ended end at is low = subst (λ e. IsOverBefore e at) (sym is) low

          le_if : (a b : ℕ) → (b < a → ⊥) → a ≤ b
          le_if a b h = grind arith

          not_less : (a b : ℕ) → a < b → b ≤ a → ⊥
          not_less a b h k = omega (arith, h, k)
