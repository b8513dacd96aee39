-- Partial orders, number by number.
use Rattle.std.proofs.Common.{◌≡◌, ℕ, ◌<◌, ℤ, true, false, eqb, Option, Some, None, List, [], ◌∷◌, ◌++◌, length, refl, sym, subst, ◌∙◌, inl, inr, arith, eq-eqb, ne_eqb}
use Rattle.std.specs.Prelude.{◌⊎◌}
use Rattle.std.specs.List.{All, IsDistinct, AllByRecursion}
use Rattle.std.proofs.lemmas.Bool.{false≢true, eqb-true}
use Rattle.std.proofs.lemmas.List.Elements.{All-nil, All-cons, All-head, All-tail}
use Rattle.std.proofs.lemmas.Map.Keys.{IsDistinct-head, IsDistinct-tail, IsDistinct-cons, IsDistinct-from_apart}
use Rattle.jh_linear.specs.declared.register.RegOp.{RegOp}
use Rattle.jh_linear.specs.declared.register.RegCall.{RegCall}
use Rattle.jh_linear.specs.declared.register.RegCall.TheVariants.{Read, Write, Cas}
use Rattle.jh_linear.specs.Order.{op_at, IsPossible, Precedes, has, Allows, IsLegalFrom, StandBefore, IsPartialOrder}
use Rattle.jh_linear.specs.SearchInside.{GoesOnWith}
use Rattle.jh_linear.proofs.NumberSetLemmas.{has_self, has_kept, has_push_cases, or_left, or_right, or_cases, eqb_self, not_true, false_if, apart_head}

pub second_there : (order : List ℕ) (a b : ℕ) → StandBefore order a b → has order b ≡ true
second_there [] a b h = absurd h
second_there (x ∷ order) a b h = elim h as (λ _. has (x ∷ order) b ≡ true) [ inl e ↦ or_right (eqb x b) _ e.1 | inr e ↦ or_right (eqb x b) _ (second_there order a b e) ]

-- each comes after what has to come before it
abbrev pub Keeps : List RegOp → List ℕ → List ℕ → Type 0
Keeps ops front order = (a b : ℕ) → Precedes ops a b → has order b ≡ true → (has front a ≡ true) ⊎ StandBefore order a b

abbrev pub Away : List ℕ → List ℕ → Type 0
Away front order = (q : ℕ) → has order q ≡ true → has front q ≡ false

module _ (ops : List RegOp) where
  pub are_there : (front order : List ℕ) (v last : Option ℤ) → GoesOnWith ops front v order last → All (λ p. p < length ops) order
  are_there front [] v last f = All-nil (λ p. p < length ops)
  are_there front (p ∷ order) v last f = All-cons (λ p. p < length ops) p order f.0.there (are_there (front ++ p ∷ []) order f.1.0 last f.1.2)

  pub possible : (front order : List ℕ) (v last : Option ℤ) → GoesOnWith ops front v order last → All (IsPossible ops) order
  possible front [] v last f = All-nil (IsPossible ops)
  possible front (p ∷ order) v last f = All-cons (IsPossible ops) p order f.0.possible (possible (front ++ p ∷ []) order f.1.0 last f.1.2)

  pub away : (front order : List ℕ) (v last : Option ℤ) → GoesOnWith ops front v order last → Away front order
  away front [] v last f q h = absurd (false≢true h)
  away front (p ∷ order) v last f q h =
      elim (or_cases (eqb p q) (has order q) h) as (λ _. has front q ≡ false) [
        | inl e ↦ subst (λ x. has front x ≡ false) (eqb-true p q e) f.0.fresh
        | inr e ↦ false_if _ (λ old. not_true _ (has_kept front p q old) (away (front ++ p ∷ []) order f.1.0 last f.1.2 q e))
      ]

  apart_from : (x : ℕ) (order : List ℕ) → has order x ≡ false → AllByRecursion (λ y. eqb x y ≡ false) order
  apart_from x [] h = tt
  apart_from x (y ∷ order) h = (
    ne_eqb x y (λ e. not_true _ (or_left (eqb y x) (has order x) (eq-eqb y x (sym e))) h),
    apart_from x order (false_if _ (λ e. not_true _ (or_right (eqb y x) _ e) h)),
  )

  pub distinct : (front order : List ℕ) (v last : Option ℤ) → GoesOnWith ops front v order last → IsDistinct eqb order
  distinct front [] v last f = IsDistinct-from_apart eqb [] (λ i j d lt inside. absurd (omega arith))
  distinct front (p ∷ order) v last f =
      let later = away (front ++ p ∷ []) order f.1.0 last f.1.2 in
      IsDistinct-cons eqb p order (apart_from p order (false_if _ (λ in'. not_true _ (has_self front p) (later p in')))) (distinct (front ++ p ∷ []) order f.1.0 last f.1.2)

  pub keeps : (front order : List ℕ) (v last : Option ℤ) → GoesOnWith ops front v order last → Keeps ops front order
  keeps front [] v last f a b before h = absurd (false≢true h)
  keeps front (p ∷ order) v last f a b before h =
      elim (or_cases (eqb p b) (has order b) h) as (λ _. (has front a ≡ true) ⊎ StandBefore (p ∷ order) a b) [
        | inl e ↦ inl (f.0.ready a (subst (λ x. Precedes ops a x) (sym (eqb-true p b e)) before))
        | inr e ↦ elim (keeps (front ++ p ∷ []) order f.1.0 last f.1.2 a b before e) as (λ _. (has front a ≡ true) ⊎ StandBefore (p ∷ order) a b) [
          | inl old ↦ elim (has_push_cases front p a old) as (λ _. (has front a ≡ true) ⊎ StandBefore (p ∷ order) a b) [
            | inl older ↦ inl older
            | inr here ↦ inr (inl (here, e))
          ]
          | inr stands ↦ inr (inr stands)
        ]
      ]

  pub runs : (front order : List ℕ) (v last : Option ℤ) → GoesOnWith ops front v order last → IsLegalFrom ops v order last
  runs front [] v last f = f
  runs front (p ∷ order) v last f = (f.1.0, f.1.1, runs (front ++ p ∷ []) order f.1.0 last f.1.2)

  pub partial : (initial : Option ℤ) (order : List ℕ) (last : Option ℤ) → GoesOnWith ops [] initial order last → IsPartialOrder ops initial order last
  partial initial order last f = record {
    there = are_there [] order initial last f;
    distinct = distinct [] order initial last f;
    possible = possible [] order initial last f;
    precedence = λ a b before h. elim (keeps [] order initial last f a b before h) as (λ _. StandBefore order a b) [ inl none ↦ absurd (false≢true none) | inr s ↦ s ];
    runs = runs [] order initial last f;
  }

  pub follows : (front order : List ℕ) (v last : Option ℤ) → All (λ p. p < length ops) order → All (IsPossible ops) order → IsDistinct eqb order → Away front order → Keeps ops front order → IsLegalFrom ops v order last → GoesOnWith ops front v order last
  follows front [] v last there possible' distinct' away' keeps' runs' = runs'
  follows front (p ∷ order) v last there possible' distinct' away' keeps' runs' =
      let once : has order p ≡ false = false_if _ (λ again. not_true _ (eqb_self p) (apart_head p order p (IsDistinct-head eqb p order distinct') again)) in (
        record {
          there = All-head (λ q. q < length ops) p order there;
          possible = All-head (IsPossible ops) p order possible';
          fresh = away' p (or_left (eqb p p) _ (eqb_self p));
          ready = λ a before. elim (keeps' a p before (or_left (eqb p p) _ (eqb_self p))) as (λ _. has front a ≡ true) [
            | inl old ↦ old
            | inr stands ↦ elim stands as (λ _. has front a ≡ true) [ inl e ↦ absurd (not_true _ e.1 once) | inr e ↦ absurd (not_true _ (second_there order a p e) once) ]
          ];
        },
        (
          runs'.0,
          runs'.1,
          follows (front ++ p ∷ []) order runs'.0 last (All-tail (λ q. q < length ops) p order there) (All-tail (IsPossible ops) p order possible') (IsDistinct-tail eqb p order distinct')
              (λ q h. false_if _ (λ old. elim (has_push_cases front p q old) as (λ _. ⊥) [
                | inl older ↦ not_true _ older (away' q (or_right (eqb p q) _ h))
                | inr here ↦ not_true _ (subst (λ x. has order x ≡ true) (sym here) h) once
              ]))
              (λ a b before h. elim (keeps' a b before (or_right (eqb p b) _ h)) as (λ _. (has (front ++ p ∷ []) a ≡ true) ⊎ StandBefore order a b) [
                | inl old ↦ inl (has_kept front p a old)
                | inr stands ↦ elim stands as (λ _. (has (front ++ p ∷ []) a ≡ true) ⊎ StandBefore order a b) [
                  | inl e ↦ inl (subst (λ x. has (front ++ p ∷ []) x ≡ true) e.0 (has_self front p))
                  | inr e ↦ inr e
                ]
              ])
              runs'.2,
        ),
      )

  pub follows_of : (initial : Option ℤ) (order : List ℕ) (last : Option ℤ) → IsPartialOrder ops initial order last → GoesOnWith ops [] initial order last
  follows_of initial order last is = follows [] order initial last is.there is.possible is.distinct (λ q h. refl) (λ a b before h. inr (is.precedence a b before h)) is.runs

  one_value : (call : RegCall) (v a b : Option ℤ) → Allows call v a → Allows call v b → a ≡ b
  one_value (Read None) v a b h k = h ∙ sym k
  one_value (Read (Some seen)) v a b h k = h.1 ∙ sym k.1
  one_value (Write new) v a b h k = h ∙ sym k
  one_value (Cas old new) v a b h k = h.1 ∙ sym k.1

  pub one_last : (order : List ℕ) (v a b : Option ℤ) → IsLegalFrom ops v order a → IsLegalFrom ops v order b → a ≡ b
  one_last [] v a b h k = h ∙ sym k
  one_last (p ∷ order) v a b h k =
      let same = one_value (op_at ops p).call v h.0 k.0 h.1 k.1 in
      one_last order k.0 a b (subst (λ x. IsLegalFrom ops x order a) same h.2) k.2
