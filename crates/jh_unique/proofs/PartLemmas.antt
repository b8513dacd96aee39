-- Parts of orders, and a read of nil put into one.
use Rattle.std.proofs.Common.{◌≡◌, ℕ, zero, suc, ◌<◌, ◌≤◌, ℤ, true, eqb, Option, Some, None, List, [], ◌∷◌, ◌++◌, length, get_or, refl, sym, ap, subst, ◌∙◌, inl, inr, arith}
use Rattle.std.specs.Prelude.{◌⊎◌}
use Rattle.std.specs.List.{flat_map}
use Rattle.std.proofs.lemmas.Bool.{cases_lt, or_right}
use Rattle.std.proofs.lemmas.List.{get_or_past}
use Rattle.std.proofs.lemmas.List.Elements.{All-from_get_or}
use Rattle.jh_linear.specs.declared.register.Outcome.{Outcome}
use Rattle.jh_linear.specs.declared.register.Outcome.TheVariants.{Done, Failed}
use Rattle.jh_linear.specs.declared.register.RegOp.{RegOp}
use Rattle.jh_linear.specs.Order.{no_op, op_at, IsDone, IsPossible, has, StandBefore, HasNoneTwice, EndsBefore, Precedes, Allows, IsLegalFrom, IsOrder, EndAfterInvoked}
use Rattle.jh_unique.specs.Unique.{reg_call_at, IsNeeded}
use Rattle.jh_unique.specs.Clusters.{ReadsNil, KeepsTimes, IsPart, IsRunOf}
use Rattle.jh_unique.proofs.ListLemmas.{has_left, has_right, has_cases, has_head, has_cons, before_first, before_left, before_right, before_across, before_cases, before_itself, before_trans, once_if, place_has}

pub done_possible : (ops : List RegOp) (p : ℕ) → IsDone ops p → IsPossible ops p
done_possible ops p done failed = let bad : ◌≡◌ {A = Outcome} Done Failed = sym done ∙ failed in cc

pub needed_possible : (ops : List RegOp) (readers : List ℕ) (p : ℕ) → IsNeeded ops readers p → IsPossible ops p
needed_possible ops [] p h = done_possible ops p h
needed_possible ops (q ∷ qs) p h = h.1.0

pub possible_there : (ops : List RegOp) (p : ℕ) → IsPossible ops p → p < length ops
possible_there ops p possible = elim (cases_lt p (length ops)) as (λ _. p < length ops) [
  | inl lt ↦ lt
  | inr le ↦ absurd (possible (ap (λ op. op.outcome) (get_or_past ops p no_op le)))
]

pub over_later : (end : Option ℕ) (a b : ℕ) → EndsBefore end a → a ≤ b → EndsBefore end b
over_later None a b h le = h
over_later (Some end) a b h le = omega (arith, h, le)

not_over : (end : Option ℕ) (at : ℕ) → ((e : ℕ) → end ≡ Some e → at < e) → EndsBefore end at → ⊥
not_over None at later h = h
not_over (Some e) at later h = absurd (omega (arith, h, later e refl))

-- nothing is over before it was invoked
pub never_over : (ops : List RegOp) → EndAfterInvoked ops → (p : ℕ) (at : ℕ) → at ≤ (op_at ops p).invoked → EndsBefore (op_at ops p).ended at → ⊥
never_over ops ends p at low over = not_over (op_at ops p).ended (op_at ops p).invoked (λ e is. ends p e is) (over_later (op_at ops p).ended at (op_at ops p).invoked over low)

module _ (ops : List RegOp) where
  pub legal_append : (xs ys : List ℕ) (value mid last : Option ℤ) → IsLegalFrom ops value xs mid → IsLegalFrom ops mid ys last → IsLegalFrom ops value (xs ++ ys) last
  legal_append [] ys value mid last h k = subst (λ v. IsLegalFrom ops v ys last) h k
  legal_append (x ∷ xs) ys value mid last h k = (h.0, h.1, legal_append xs ys h.0 mid last h.2 k)

  pub legal_split : (xs ys : List ℕ) (value last : Option ℤ) → IsLegalFrom ops value (xs ++ ys) last → (mid : Option ℤ) × IsLegalFrom ops value xs mid × IsLegalFrom ops mid ys last
  legal_split [] ys value last h = (value, refl, h)
  legal_split (x ∷ xs) ys value last h = let r = legal_split xs ys h.0 last h.2 in (r.0, (h.0, h.1, r.1), r.2)

module _ (ops : List RegOp) (initial : Option ℤ) (members : ℕ → List ℕ) where
  pub legal_later : (runs : (cluster : ℕ) → IsRunOf ops initial cluster (members cluster)) (cs : List ℕ) → (has cs 0 ≡ true → ⊥) → (value : Option ℤ) → (last : Option ℤ) × IsLegalFrom ops value (flat_map members cs) last
  legal_later runs [] none value = (value, refl)
  legal_later runs (zero ∷ cs) none value = absurd (none (has_head 0 cs))
  legal_later runs (suc w ∷ cs) none value =
      let one = runs (suc w) value in
      let rest = legal_later runs cs (λ h. none (or_right (eqb (suc w) 0) _ h)) one.0 in
      (rest.0, legal_append ops (members (suc w)) (flat_map members cs) value one.0 rest.0 one.1 rest.1)

-- A read of nil, put where it was invoked.
module _ (ops : List RegOp) (r : ℕ) where
  abbrev at : ℕ → ℕ
  at p = (op_at ops p).invoked

  -- where the others stand
  pub has_more : (front back : List ℕ) (p : ℕ) → has (front ++ back) p ≡ true → has (front ++ r ∷ back) p ≡ true
  has_more front back p h = elim (has_cases front back p h) as (λ _. has (front ++ r ∷ back) p ≡ true) [
    | inl here ↦ has_left front (r ∷ back) p here
    | inr there ↦ has_right front (r ∷ back) p (or_right (eqb r p) _ there)
  ]

  pub has_less : (front back : List ℕ) (p : ℕ) → has (front ++ r ∷ back) p ≡ true → (r ≡ p) ⊎ (has (front ++ back) p ≡ true)
  has_less front back p h = elim (has_cases front (r ∷ back) p h) as (λ _. (r ≡ p) ⊎ (has (front ++ back) p ≡ true)) [
    | inl here ↦ inr (has_left front back p here)
    | inr there ↦ elim (has_cons r back p there) as (λ _. (r ≡ p) ⊎ (has (front ++ back) p ≡ true)) [ inl e ↦ inl e | inr later ↦ inr (has_right front back p later) ]
  ]

  pub before_more : (front back : List ℕ) (a b : ℕ) → StandBefore (front ++ back) a b → StandBefore (front ++ r ∷ back) a b
  before_more front back a b h = elim (before_cases front back a b h) as (λ _. StandBefore (front ++ r ∷ back) a b) [
    | inl here ↦ before_left front (r ∷ back) a b here
    | inr more ↦ elim more as (λ _. StandBefore (front ++ r ∷ back) a b) [
      | inl across ↦ before_across front (r ∷ back) a b across.0 (or_right (eqb r b) _ across.1)
      | inr there ↦ before_right front (r ∷ back) a b (inr there)
    ]
  ]

  before_less : (front back : List ℕ) (a : ℕ) → StandBefore (front ++ r ∷ back) a a → (has (front ++ back) r ≡ true) ⊎ StandBefore (front ++ back) a a
  before_less front back a h =
      let Goal : Type 0 = (has (front ++ back) r ≡ true) ⊎ StandBefore (front ++ back) a a in
      elim (before_cases front (r ∷ back) a a h) as (λ _. Goal) [
        | inl here ↦ inr (before_left front back a a here)
        | inr more ↦ elim more as (λ _. Goal) [
          | inl across ↦ elim (has_cons r back a across.1) as (λ _. Goal) [
            | inl e ↦ inl (has_left front back r (subst (λ z. has front z ≡ true) (sym e) across.0))
            | inr later ↦ inr (before_across front back a a across.0 later)
          ]
          | inr there ↦ elim there as (λ _. Goal) [
            | inl now ↦ inl (has_right front back r (subst (λ z. has back z ≡ true) (sym now.0) now.1))
            | inr later ↦ inr (before_right front back a a later)
          ]
        ]
      ]

  module _ (initial : Option ℤ) (ends : EndAfterInvoked ops) (reads : ReadsNil ops r) (done : IsDone ops r) (order : List ℕ) (new : has order r ≡ true → ⊥) (part : IsPart ops initial order) where
    module _ (front back : List ℕ) (is : order ≡ front ++ back) (early : (x : ℕ) → has front x ≡ true → at x ≤ at r)
        (late : (y : ℕ) → has back y ≡ true → (b : ℕ) × (at r < at b) × ((b ≡ y) ⊎ StandBefore back b y)) where
      none_again : (a : ℕ) → StandBefore (front ++ r ∷ back) a a → ⊥
      none_again a h = elim (before_less front back a h) as (λ _. ⊥) [
        | inl old ↦ new (subst (λ xs. has xs r ≡ true) (sym is) old)
        | inr twice ↦ before_itself order a part.distinct (subst (λ xs. StandBefore xs a a) (sym is) twice)
      ]

      -- what is over before it was invoked stands in front
      over_in_front : (a : ℕ) → Precedes ops a r → has (front ++ back) a ≡ true → has front a ≡ true
      over_in_front a over here = elim (has_cases front back a here) as (λ _. has front a ≡ true) [
        | inl there ↦ there
        | inr behind ↦
            let l = late a behind in
            let low : at r ≤ at l.0 = omega (arith, l.1) in
            let over' : EndsBefore (op_at ops a).ended (at l.0) = over_later (op_at ops a).ended (at r) (at l.0) over.1 low in
            absurd (elim l.2 as (λ _. ⊥) [
              | inl same ↦ never_over ops ends a (at r) (subst (λ z. at r ≤ at z) same low) over.1
              | inr stands ↦
                  let b_there : has order l.0 ≡ true = subst (λ xs. has xs l.0 ≡ true) (sym is) (has_right front back l.0 (before_first back l.0 a stands)) in
                  let a_there : has order a ≡ true = subst (λ xs. has xs a ≡ true) (sym is) here in
                  let other : StandBefore order l.0 a = subst (λ xs. StandBefore xs l.0 a) (sym is) (before_right front back l.0 a stands) in
                  before_itself order a part.distinct (before_trans' order a l.0 part.distinct (part.times a l.0 (over.0, over') a_there b_there) other)
            ])
      ] where
        before_trans' : (xs : List ℕ) (a b : ℕ) → HasNoneTwice xs → StandBefore xs a b → StandBefore xs b a → StandBefore xs a a
        before_trans' xs a b once h k = before_trans xs a b a once h k

      more_times : KeepsTimes ops (front ++ r ∷ back)
      more_times a b over here also = elim (has_less front back a here) as (λ _. StandBefore (front ++ r ∷ back) a b) [
        | inl is_a ↦ elim (has_less front back b also) as (λ _. StandBefore (front ++ r ∷ back) a b) [
          | inl is_b ↦ absurd (never_over ops ends a (at b) (subst (λ z. at z ≤ at a) is_b (subst (λ z. at r ≤ at z) is_a (omega arith))) over.1)
          | inr old_b ↦ elim (has_cases front back b old_b) as (λ _. StandBefore (front ++ r ∷ back) a b) [
            | inl low ↦ absurd (never_over ops ends a (at b) (subst (λ z. at b ≤ at z) is_a (early b low)) over.1)
            | inr behind ↦ before_right front (r ∷ back) a b (inl (is_a, behind))
          ]
        ]
        | inr old_a ↦ elim (has_less front back b also) as (λ _. StandBefore (front ++ r ∷ back) a b) [
          | inl is_b ↦ subst (λ z. StandBefore (front ++ r ∷ back) a z) is_b (before_across front (r ∷ back) a r (over_in_front a (subst (λ z. Precedes ops a z) (sym is_b) over) old_a) (has_head r back))
          | inr old_b ↦ before_more front back a b (subst (λ xs. StandBefore xs a b) is (part.times a b over (subst (λ xs. has xs a ≡ true) (sym is) old_a) (subst (λ xs. has xs b ≡ true) (sym is) old_b)))
        ]
      ]

      pub more_part : IsPart ops initial (front ++ r ∷ back)
      more_part =
          let cut = legal_split ops front back initial part.last (subst (λ xs. IsLegalFrom ops initial xs part.last) is part.runs) in
          let allowed : Allows (reg_call_at ops r) cut.0 cut.0 = subst (λ c. Allows c cut.0 cut.0) (sym reads) refl in
          record {
            distinct = once_if (front ++ r ∷ back) none_again;
            possible = λ p h. elim (has_less front back p h) as (λ _. IsPossible ops p) [
              | inl e ↦ subst (IsPossible ops) e (done_possible ops r done)
              | inr old ↦ part.possible p (subst (λ xs. has xs p ≡ true) (sym is) old)
            ];
            times = more_times;
            last = part.last;
            runs = legal_append ops front (r ∷ back) initial cut.0 part.last cut.1 (cut.0, allowed, cut.2);
          }

-- a part with all that happened is an order
pub whole_part : (ops : List RegOp) (initial : Option ℤ) (order : List ℕ) → IsPart ops initial order → ((p : ℕ) → IsDone ops p → has order p ≡ true) → IsOrder ops initial order
whole_part ops initial order part whole = record {
  last = part.last;
  partial = record {
    there = All-from_get_or (λ p. p < length ops) order 0 (λ i low. possible_there ops (get_or order i 0) (part.possible (get_or order i 0) (place_has order i low)));
    distinct = part.distinct;
    possible = All-from_get_or (IsPossible ops) order 0 (λ i low. part.possible (get_or order i 0) (place_has order i low));
    precedence = λ a b over there. part.times a b over (whole a over.0) there;
    runs = part.runs;
  };
  whole = whole;
}
