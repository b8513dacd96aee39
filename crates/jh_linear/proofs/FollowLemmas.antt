-- Orders with an operation taken forward, left out, put in, or exchanged with its twin.
use Rattle.std.proofs.Common.{◌≡◌, ℕ, suc, ℤ, Bool, true, false, eqb, Option, List, [], ◌∷◌, ◌++◌, length, refl, sym, ap, subst, ◌∙◌, inl, inr}
use Rattle.std.specs.Prelude.{◌⊎◌, ◌||◌}
use Rattle.std.proofs.lemmas.Bool.{false≢true, eqb-true}
use Rattle.jh_linear.specs.declared.register.RegOp.{RegOp}
use Rattle.jh_linear.specs.Order.{op_at, IsDone, has, Allows}
use Rattle.jh_linear.specs.SearchInside.{LeavesValue, MayComeNext, GoesOnWith}
use Rattle.jh_linear.proofs.NumberSetLemmas.{eqb_self, has_self, has_append, has_kept, has_push_same, has_push_cases, or_left, or_right, or_cases, not_true, false_if, test_cases}

pub may_follow_same : (ops : List RegOp) (a b : List ℕ) (p : ℕ) → ((q : ℕ) → has a q ≡ has b q) → MayComeNext ops a p → MayComeNext ops b p
may_follow_same ops a b p same may = record {
  there = may.there;
  possible = may.possible;
  fresh = sym (same p) ∙ may.fresh;
  ready = λ first before. sym (same first) ∙ may.ready first before;
}

pub follows_same : (ops : List RegOp) (a b order : List ℕ) (value last : Option ℤ) → ((q : ℕ) → has a q ≡ has b q) → GoesOnWith ops a value order last → GoesOnWith ops b value order last
follows_same ops a b [] value last same f = f
follows_same ops a b (p ∷ order) value last same f =
    (may_follow_same ops a b p same f.0, (f.1.0, f.1.1, follows_same ops (a ++ p ∷ []) (b ++ p ∷ []) order f.1.0 last (has_push_same a b p same) f.1.2))

or_swap : (a b c : Bool) → ((a || b) || c) ≡ ((a || c) || b)
or_swap true b c = refl
or_swap false true true = refl
or_swap false true false = refl
or_swap false false true = refl
or_swap false false false = refl

has_swapped : (front : List ℕ) (x p q : ℕ) → has ((front ++ x ∷ []) ++ p ∷ []) q ≡ has ((front ++ p ∷ []) ++ x ∷ []) q
has_swapped front x p q =
    has_append (front ++ x ∷ []) (p ∷ []) q
    ∙ ap (λ b. b || has (p ∷ []) q) (has_append front (x ∷ []) q)
    ∙ or_swap (has front q) (has (x ∷ []) q) (has (p ∷ []) q)
    ∙ ap (λ b. b || has (x ∷ []) q) (sym (has_append front (p ∷ []) q))
    ∙ sym (has_append (front ++ p ∷ []) (x ∷ []) q)

pub not_pushed : (front : List ℕ) (p q : ℕ) → has front q ≡ false → (p ≡ q → ⊥) → has (front ++ p ∷ []) q ≡ false
not_pushed front p q out other = false_if _ (λ h. elim (has_push_cases front p q h) as (λ _. ⊥) [ inl e ↦ not_true _ e out | inr e ↦ other e ])

pub was_not_there : (front : List ℕ) (p q : ℕ) → has (front ++ p ∷ []) q ≡ false → has front q ≡ false
was_not_there front p q out = false_if _ (λ h. not_true _ (has_kept front p q h) out)

pub are_other : (front : List ℕ) (p q : ℕ) → has (front ++ p ∷ []) q ≡ false → p ≡ q → ⊥
are_other front p q out is = not_true _ (subst (λ x. has (front ++ p ∷ []) x ≡ true) is (has_self front p)) out

-- An operation that leaves the value may come before all that stand in front of it.
module _ (ops : List RegOp) (p : ℕ) (leaves : LeavesValue (op_at ops p).call) where
  abbrev Taken : List ℕ → List ℕ → Option ℤ → Option ℤ → Type 0
  Taken front back value last =
      (rest : List ℕ) × (suc (length rest) ≡ length back) × GoesOnWith ops (front ++ p ∷ []) value rest last
      × ((q : ℕ) → has back q ≡ true → (p ≡ q) ⊎ (has rest q ≡ true))

  pub taken_out : (front back : List ℕ) (value last : Option ℤ) → has front p ≡ false → has back p ≡ true → GoesOnWith ops front value back last → Taken front back value last
  taken_out front [] value last fresh h f = absurd (false≢true h)
  taken_out front (x ∷ back) value last fresh h f = elim (test_cases (eqb x p)) as (λ _. Taken front (x ∷ back) value last) [
    | inl e ↦
        let is : x ≡ p = eqb-true x p e in
        let kept : f.1.0 ≡ value = leaves value f.1.0 (subst (λ y. Allows (op_at ops y).call value f.1.0) is f.1.1) in (
          back,
          refl,
          subst (λ y. GoesOnWith ops (front ++ y ∷ []) value back last) is (subst (λ w. GoesOnWith ops (front ++ x ∷ []) w back last) kept f.1.2),
          λ q k. elim (or_cases (eqb x q) (has back q) k) as (λ _. (p ≡ q) ⊎ (has back q ≡ true)) [ inl s ↦ inl (sym is ∙ eqb-true x q s) | inr s ↦ inr s ],
        )
    | inr ne ↦
        let later : has back p ≡ true = elim (or_cases (eqb x p) (has back p) h) as (λ _. has back p ≡ true) [ inl e ↦ absurd (not_true _ e ne) | inr e ↦ e ] in
        let other : x ≡ p → ⊥ = λ is. not_true (eqb x p) (subst (λ y. eqb x y ≡ true) is (eqb_self x)) ne in
        let r = taken_out (front ++ x ∷ []) back f.1.0 last (not_pushed front x p fresh other) later f.1.2 in (
          x ∷ r.0,
          ap suc r.1,
          (
            record {
              there = f.0.there;
              possible = f.0.possible;
              fresh = not_pushed front p x f.0.fresh (λ is. other (sym is));
              ready = λ first before. has_kept front p first (f.0.ready first before);
            },
            (f.1.0, f.1.1, follows_same ops ((front ++ x ∷ []) ++ p ∷ []) ((front ++ p ∷ []) ++ x ∷ []) r.0 f.1.0 last (has_swapped front x p) r.2),
          ),
          λ q k. elim (or_cases (eqb x q) (has back q) k) as (λ _. (p ≡ q) ⊎ (has (x ∷ r.0) q ≡ true)) [
            | inl s ↦ inr (or_left (eqb x q) (has r.0 q) s)
            | inr s ↦ elim (r.3 q s) as (λ _. (p ≡ q) ⊎ (has (x ∷ r.0) q ≡ true)) [ inl t ↦ inl t | inr t ↦ inr (or_right (eqb x q) (has r.0 q) t) ]
          ],
        )
  ]

-- an operation that is not among those behind may be placed before them
pub follows_more : (ops : List RegOp) (p : ℕ) (front back : List ℕ) (value last : Option ℤ) → has back p ≡ false → GoesOnWith ops front value back last → GoesOnWith ops (front ++ p ∷ []) value back last
follows_more ops p front [] value last out f = f
follows_more ops p front (x ∷ back) value last out f =
    let other : p ≡ x → ⊥ = λ is. not_true _ (or_left (eqb x p) (has back p) (subst (λ y. eqb x y ≡ true) (sym is) (eqb_self x))) out in
    let later : has back p ≡ false = false_if _ (λ h. not_true _ (or_right (eqb x p) (has back p) h) out) in (
      record {
        there = f.0.there;
        possible = f.0.possible;
        fresh = not_pushed front p x f.0.fresh other;
        ready = λ first before. has_kept front p first (f.0.ready first before);
      },
      (f.1.0, f.1.1, follows_same ops ((front ++ x ∷ []) ++ p ∷ []) ((front ++ p ∷ []) ++ x ∷ []) back f.1.0 last (has_swapped front x p) (follows_more ops p (front ++ x ∷ []) back f.1.0 last later f.1.2)),
    )

-- What is not known to have happened may be left out in front.
module _ (ops : List RegOp) (x : ℕ) (not_done : IsDone ops x → ⊥) where
  pub may_without : (front : List ℕ) (y : ℕ) → MayComeNext ops (front ++ x ∷ []) y → MayComeNext ops front y
  may_without front y may = record {
    there = may.there;
    possible = may.possible;
    fresh = was_not_there front x y may.fresh;
    ready = λ first before. elim (has_push_cases front x first (may.ready first before)) as (λ _. has front first ≡ true) [
      | inl old ↦ old
      | inr is ↦ absurd (not_done (subst (IsDone ops) (sym is) before.0))
    ];
  }

  pub follows_less : (front back : List ℕ) (value last : Option ℤ) → GoesOnWith ops (front ++ x ∷ []) value back last → GoesOnWith ops front value back last
  follows_less front [] value last f = f
  follows_less front (y ∷ back) value last f = (
    may_without front y f.0,
    (
      f.1.0,
      f.1.1,
      follows_less (front ++ y ∷ []) back f.1.0 last (follows_same ops ((front ++ x ∷ []) ++ y ∷ []) ((front ++ y ∷ []) ++ x ∷ []) back f.1.0 last (has_swapped front x y) f.1.2),
    ),
  )

  -- Twins of unknown outcome: the one may stand for the other.
  module _ (p : ℕ) (same_call : (op_at ops x).call ≡ (op_at ops p).call) where
    abbrev Exchanged : List ℕ → List ℕ → Option ℤ → Option ℤ → Type 0
    Exchanged front rest value last =
        (rest' : List ℕ) × (length rest' ≡ length rest) × GoesOnWith ops (front ++ p ∷ []) value rest' last
        × ((q : ℕ) → IsDone ops q → has rest q ≡ true → has rest' q ≡ true)

    exchanged : (IsDone ops p → ⊥) → (front rest : List ℕ) (value last : Option ℤ) → MayComeNext ops front x → has front p ≡ false → has rest p ≡ true → GoesOnWith ops (front ++ x ∷ []) value rest last → Exchanged front rest value last
    exchanged not_p front [] value last may out h f = absurd (false≢true h)
    exchanged not_p front (y ∷ rest) value last may out h f =
        let apart : x ≡ y → ⊥ = are_other front x y f.0.fresh in
        elim (test_cases (eqb y p)) as (λ _. Exchanged front (y ∷ rest) value last) [
          | inl e ↦
              let is : y ≡ p = eqb-true y p e in
              let away : p ≡ x → ⊥ = λ same. apart (sym (is ∙ same)) in
              let allowed = subst (λ c. Allows c value f.1.0) (ap (λ z. (op_at ops z).call) is ∙ sym same_call) f.1.1 in
              let behind = subst (λ z. GoesOnWith ops ((front ++ x ∷ []) ++ z ∷ []) f.1.0 rest last) is f.1.2 in (
                x ∷ rest,
                refl,
                (
                  record {
                    there = may.there;
                    possible = may.possible;
                    fresh = not_pushed front p x may.fresh away;
                    ready = λ first before. has_kept front p first (may.ready first before);
                  },
                  (f.1.0, allowed, follows_same ops ((front ++ x ∷ []) ++ p ∷ []) ((front ++ p ∷ []) ++ x ∷ []) rest f.1.0 last (has_swapped front x p) behind),
                ),
                λ q done k. elim (or_cases (eqb y q) (has rest q) k) as (λ _. has (x ∷ rest) q ≡ true) [
                  | inl s ↦ absurd (not_p (subst (IsDone ops) (sym (sym is ∙ eqb-true y q s)) done))
                  | inr s ↦ or_right (eqb x q) (has rest q) s
                ],
              )
          | inr ne ↦
              let later : has rest p ≡ true = elim (or_cases (eqb y p) (has rest p) h) as (λ _. has rest p ≡ true) [ inl e ↦ absurd (not_true _ e ne) | inr e ↦ e ] in
              let other : y ≡ p → ⊥ = λ is. not_true (eqb y p) (subst (λ z. eqb y z ≡ true) is (eqb_self y)) ne in
              let on : GoesOnWith ops ((front ++ y ∷ []) ++ x ∷ []) f.1.0 rest last = follows_same ops ((front ++ x ∷ []) ++ y ∷ []) ((front ++ y ∷ []) ++ x ∷ []) rest f.1.0 last (has_swapped front x y) f.1.2 in
              let before = may_without front y f.0 in
              let still : MayComeNext ops (front ++ y ∷ []) x = record {
                there = may.there;
                possible = may.possible;
                fresh = not_pushed front y x may.fresh (λ is. apart (sym is));
                ready = λ first earlier. has_kept front y first (may.ready first earlier);
              } in
              let r = exchanged not_p (front ++ y ∷ []) rest f.1.0 last still (not_pushed front y p out other) later on in (
                y ∷ r.0,
                ap suc r.1,
                (
                  record {
                    there = before.there;
                    possible = before.possible;
                    fresh = not_pushed front p y before.fresh (λ is. other (sym is));
                    ready = λ first earlier. has_kept front p first (before.ready first earlier);
                  },
                  (f.1.0, f.1.1, follows_same ops ((front ++ y ∷ []) ++ p ∷ []) ((front ++ p ∷ []) ++ y ∷ []) r.0 f.1.0 last (has_swapped front y p) r.2),
                ),
                λ q done k. elim (or_cases (eqb y q) (has rest q) k) as (λ _. has (y ∷ r.0) q ≡ true) [
                  | inl s ↦ or_left (eqb y q) (has r.0 q) s
                  | inr s ↦ or_right (eqb y q) (has r.0 q) (r.3 q done s)
                ],
              )
        ]

    -- what comes after one of them may come after the other, with the first in its place where it stands there
    pub after_twin : (IsDone ops p → ⊥) → (front rest : List ℕ) (value last : Option ℤ) → MayComeNext ops front x → has front p ≡ false → GoesOnWith ops (front ++ x ∷ []) value rest last → Exchanged front rest value last
    after_twin not_p front rest value last may out f = elim (test_cases (has rest p)) as (λ _. Exchanged front rest value last) [
      | inl there ↦ exchanged not_p front rest value last may out there f
      | inr none ↦ (rest, refl, follows_more ops p front rest value last none (follows_less front rest value last f), λ q done k. k)
    ]
