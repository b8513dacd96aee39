-- The least place at which pairs are refused.
use Rattle.std.proofs.Common.{◌≡◌, ◌∙◌, ℕ, ◌≤◌, min, Option, Some, None, List, [], ◌∷◌, ◌++◌, refl, sym, ap, subst, inl, inr, arith, append_assoc}
use Rattle.std.specs.Prelude.{◌⊎◌}
use Rattle.std.proofs.lemmas.Bool.{cases_lt}
use Rattle.jh_ops.specs.declared.pairs.Pair.{Pair}
use Rattle.jh_txn_histories.specs.Histories.{IsRefusedAt}
use Rattle.jh_txn_histories.specs.ReadingInside.{IsLeastPlace, lesser_of_places}

module _ (P Q : ℕ → Type 0) where
  -- the least of which Q holds, where Q holds of what P holds of, and of this one
  pub least_more : (before here : Option ℕ) → ((n : ℕ) → P n → Q n) → ((n : ℕ) → here ≡ Some n → Q n) → ((n : ℕ) → Q n → P n ⊎ (here ≡ Some n)) → IsLeastPlace P before → IsLeastPlace Q (lesser_of_places before here)
  least_more None None old new only h = λ n q. elim (only n q) as (λ _. ⊥) [ inl p ↦ h n p | inr e ↦ absurd (let none = e in cc) ]
  least_more None (Some b) old new only h =
      (new b refl, λ n q. elim (only n q) as (λ _. b ≤ n) [ inl p ↦ absurd (h n p) | inr e ↦ (let same : b ≡ n = (let both : ◌≡◌ {A = Option ℕ} (Some b) (Some n) = e in cc) in omega arith) ])
  least_more (Some a) None old new only h =
      (old a h.0, λ n q. elim (only n q) as (λ _. a ≤ n) [ inl p ↦ h.1 n p | inr e ↦ absurd (let none : ◌≡◌ {A = Option ℕ} None (Some n) = e in cc) ])
  least_more (Some a) (Some b) old new only h = elim (cases_lt b a) as (λ _. IsLeastPlace Q (Some (min a b))) [
    | inl below ↦
        let least : b ≡ min a b = omega (arith, below) in
        subst (λ m. IsLeastPlace Q (Some m)) least (
          new b refl,
          λ n q. elim (only n q) as (λ _. b ≤ n) [
            | inl p ↦ omega (arith, h.1 n p, below)
            | inr e ↦ (let same : b ≡ n = (let both : ◌≡◌ {A = Option ℕ} (Some b) (Some n) = e in cc) in omega arith)
          ],
        )
    | inr above ↦
        let least : a ≡ min a b = omega (arith, above) in
        subst (λ m. IsLeastPlace Q (Some m)) least (
          old a h.0,
          λ n q. elim (only n q) as (λ _. a ≤ n) [
            | inl p ↦ h.1 n p
            | inr e ↦ (let same : b ≡ n = (let both : ◌≡◌ {A = Option ℕ} (Some b) (Some n) = e in cc) in omega (arith, above))
          ],
        )
  ]

not_nothing : {X : Type 0} (xs ys : List X) (x : X) → xs ++ x ∷ ys ≡ [] → ⊥
not_nothing [] ys x e = absurd (let none = e in cc)
not_nothing (z ∷ xs) ys x e = absurd (let none = e in cc)

-- where a list is cut that has one more
pub cut_push : {X : Type 0} (xs front back : List X) (x y : X) → xs ++ x ∷ [] ≡ front ++ y ∷ back → ((rest : List X) × (xs ≡ front ++ y ∷ rest)) ⊎ ((xs ≡ front) × (x ≡ y))
cut_push [] [] back x y e = inr (refl, let same = e in cc)
cut_push [] (z ∷ front) back x y e = absurd (let rest : [] ≡ front ++ y ∷ back = (let whole = e in cc) in not_nothing front back y (sym rest))
cut_push (z ∷ xs) [] back x y e = inl (xs, (let same : z ≡ y = (let whole = e in cc) in ap (λ w. w ∷ xs) same))
cut_push (z ∷ xs) (w ∷ front) back x y e =
    let same : z ≡ w = (let whole = e in cc) in
    let rest : xs ++ x ∷ [] ≡ front ++ y ∷ back = (let whole = e in cc) in
    elim (cut_push xs front back x y rest) as (λ _. ((rest : _) × (z ∷ xs ≡ w ∷ front ++ y ∷ rest)) ⊎ ((z ∷ xs ≡ w ∷ front) × (x ≡ y))) [
      | inl h ↦ inl (h.0, ap (λ v. v ∷ xs) same ∙ ap (λ vs. w ∷ vs) h.1)
      | inr h ↦ inr (ap (λ v. v ∷ xs) same ∙ ap (λ vs. w ∷ vs) h.0, h.1)
    ]

module _ (refused : List Pair → Pair → Option ℕ) (front : List Pair) (pair : Pair) where
  refused_more : (place : ℕ) → IsRefusedAt refused front place → IsRefusedAt refused (front ++ pair ∷ []) place
  refused_more place h = (h.0, h.1 ++ pair ∷ [], h.2, ap (λ xs. xs ++ pair ∷ []) h.3 ∙ append_assoc h.0 (h.2 ∷ h.1) (pair ∷ []), h.4)

  refused_here : (place : ℕ) → refused front pair ≡ Some place → IsRefusedAt refused (front ++ pair ∷ []) place
  refused_here place is = (front, [], pair, refl, is)

  refused_cases : (place : ℕ) → IsRefusedAt refused (front ++ pair ∷ []) place → IsRefusedAt refused front place ⊎ (refused front pair ≡ Some place)
  refused_cases place h = elim (cut_push front h.0 h.1 pair h.2 h.3) as (λ _. IsRefusedAt refused front place ⊎ (refused front pair ≡ Some place)) [
    | inl cut ↦ inl (h.0, cut.0, h.2, cut.1, h.4)
    | inr end ↦ inr (ap (λ f. refused f pair) end.0 ∙ ap (λ p. refused h.0 p) end.1 ∙ h.4)
  ]

  -- one more pair
  pub least_refused : (before here : Option ℕ) → refused front pair ≡ here → IsLeastPlace (IsRefusedAt refused front) before → IsLeastPlace (IsRefusedAt refused (front ++ pair ∷ [])) (lesser_of_places before here)
  least_refused before here is h =
      least_more (IsRefusedAt refused front) (IsRefusedAt refused (front ++ pair ∷ [])) before here refused_more
      (λ n e. refused_here n (is ∙ e))
      (λ n r. elim (refused_cases n r) as (λ _. IsRefusedAt refused front n ⊎ (here ≡ Some n)) [ inl old ↦ inl old | inr e ↦ inr (sym is ∙ e) ])
      h

-- no pair is refused among none
pub none_refused : (refused : List Pair → Pair → Option ℕ) → IsLeastPlace (IsRefusedAt refused []) None
none_refused refused = λ n h. not_nothing h.0 h.1 h.2 (sym h.3)
