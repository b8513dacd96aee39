-- Members of lists: of those that were filtered, mapped, put in order or freed of what stands twice.
use Rattle.std.proofs.Common.{◌≡◌, ◌⊎◌, inl, inr, ℕ, zero, suc, ◌<◌, Bool, true, false, cond, not, List, [], ◌∷◌, map, length, get_or, refl, sym, ap, ◌∙◌, subst, arith, Contains}
use Rattle.std.specs.Prelude.{◌==◌}
use Rattle.std.specs.List.{filter, list_any}
use Rattle.std.proofs.lemmas.Bool.{or_cases, or_left, or_right, not_from_false, eqb-true}
use Rattle.jh_edn.specs.Edn.{Edn}
use Rattle.jh_edn.specs.Order.{in_order, put_in_order}
use Rattle.jh_check.specs.Distinct.{is_same, distinct_values}
use Rattle.jh_check.proofs.DistinctLemmas.{same_itself, same_back, same_along}

abbrev pub Member : {X : Type 0} → X → List X → Type 0
Member x [] = ⊥
Member x (y ∷ ys) = (y ≡ x) ⊎ Member x ys

member_at : {X : Type 0} (xs : List X) (k : ℕ) (x : X) → k < length xs → get_or xs k x ≡ x → Member x xs
member_at [] k x less at = absurd (omega (arith, less))
member_at (y ∷ ys) zero x less at = inl at
member_at (y ∷ ys) (suc k) x less at = inr (member_at ys k x (omega (arith, less)) at)

pub member_from : {X : Type 0} (xs : List X) (x : X) → Contains xs x → Member x xs
member_from xs x h = member_at xs h.0 x h.1 h.2

pub member_to : {X : Type 0} (xs : List X) (x : X) → Member x xs → Contains xs x
member_to [] x h = absurd h
member_to (y ∷ ys) x (inl same) = (0, omega arith, same)
member_to (y ∷ ys) x (inr behind) = let there = member_to ys x behind in (suc there.0, omega (arith, there.1), there.2)

-- a list is empty where it has no member
pub empty_none : {X : Type 0} (xs : List X) → (length xs == 0) ≡ true → (x : X) → Member x xs → ⊥
empty_none [] e x h = h
empty_none (y ∷ ys) e x h = let same = eqb-true (length (y ∷ ys)) 0 e in absurd (omega (arith, same))

pub none_empty : {X : Type 0} (xs : List X) → ((x : X) → Member x xs → ⊥) → (length xs == 0) ≡ true
none_empty [] none = refl
none_empty (y ∷ ys) none = absurd (none y (inl refl))

-- ---- filtered and mapped

pub filter_from : {X : Type 0} (p : X → Bool) (x : X) (xs : List X) → Member x (filter p xs) → Member x xs × (p x ≡ true)
filter_from p x [] h = absurd h
filter_from p x (y ∷ ys) h =
    elim (p y) as (λ b. p y ≡ b → Member x (cond b (y ∷ filter p ys) (filter p ys)) → Member x (y ∷ ys) × (p x ≡ true)) [
      | true ↦ λ is h. elim h [
        | inl same ↦ (inl same, subst (λ z. p z ≡ true) same is)
        | inr behind ↦ let rest = filter_from p x ys behind in (inr rest.0, rest.1)
      ]
      | false ↦ λ is h. let rest = filter_from p x ys h in (inr rest.0, rest.1)
    ] refl h

pub filter_to : {X : Type 0} (p : X → Bool) (x : X) (xs : List X) → Member x xs → p x ≡ true → Member x (filter p xs)
filter_to p x [] h is = absurd h
filter_to p x (y ∷ ys) (inl same) is = rw (ap p same ∙ is) (inl same)
filter_to p x (y ∷ ys) (inr behind) is =
    elim (p y) as (λ b. Member x (cond b (y ∷ filter p ys) (filter p ys))) [
      | true ↦ inr (filter_to p x ys behind is)
      | false ↦ filter_to p x ys behind is
    ]

pub map_from : {X Y : Type 0} (f : X → Y) (y : Y) (xs : List X) → Member y (map f xs) → (x : X) × Member x xs × (f x ≡ y)
map_from f y [] h = absurd h
map_from f y (x ∷ xs) (inl same) = (x, inl refl, same)
map_from f y (x ∷ xs) (inr behind) = let rest = map_from f y xs behind in (rest.0, inr rest.1, rest.2)

pub map_to : {X Y : Type 0} (f : X → Y) (x : X) (xs : List X) → Member x xs → Member (f x) (map f xs)
map_to f x [] h = absurd h
map_to f x (y ∷ ys) (inl same) = inl (ap f same)
map_to f x (y ∷ ys) (inr behind) = inr (map_to f x ys behind)

-- ---- tests

pub any_from : {X : Type 0} (p : X → Bool) (xs : List X) → list_any p xs ≡ true → (x : X) × Member x xs × (p x ≡ true)
any_from p [] h = absurd cc
any_from p (x ∷ xs) h =
    elim (or_cases (p x) (list_any p xs) h) [
      | inl is ↦ (x, inl refl, is)
      | inr behind ↦ (let rest = any_from p xs behind in (rest.0, inr rest.1, rest.2))
    ]

pub any_to : {X : Type 0} (p : X → Bool) (x : X) (xs : List X) → Member x xs → p x ≡ true → list_any p xs ≡ true
any_to p x [] h is = absurd h
any_to p x (y ∷ ys) (inl same) is = or_left (p y) (list_any p ys) (ap p same ∙ is)
any_to p x (y ∷ ys) (inr behind) is = or_right (p y) (list_any p ys) (any_to p x ys behind is)

-- ---- put in order

put_from : {X : Type 0} (lt : X → X → Bool) (x y : X) (ys : List X) → Member x (put_in_order lt y ys) → Member x (y ∷ ys)
put_from lt x y [] h = h
put_from lt x y (z ∷ zs) h =
    elim (lt z y) as (λ b. Member x (cond b (z ∷ put_in_order lt y zs) (y ∷ z ∷ zs)) → Member x (y ∷ z ∷ zs)) [
      | true ↦ λ h. elim h [
        | inl same ↦ inr (inl same)
        | inr behind ↦ elim (put_from lt x y zs behind) [ inl same ↦ inl same | inr there ↦ inr (inr there) ]
      ]
      | false ↦ λ h. h
    ] h

put_to : {X : Type 0} (lt : X → X → Bool) (x y : X) (ys : List X) → Member x (y ∷ ys) → Member x (put_in_order lt y ys)
put_to lt x y [] h = h
put_to lt x y (z ∷ zs) h =
    elim (lt z y) as (λ b. Member x (cond b (z ∷ put_in_order lt y zs) (y ∷ z ∷ zs))) [
      | true ↦ elim h [
        | inl same ↦ inr (put_to lt x y zs (inl same))
        | inr behind ↦ elim behind [ inl same ↦ inl same | inr there ↦ inr (put_to lt x y zs (inr there)) ]
      ]
      | false ↦ h
    ]

pub order_from : {X : Type 0} (lt : X → X → Bool) (x : X) (xs : List X) → Member x (in_order lt xs) → Member x xs
order_from lt x [] h = h
order_from lt x (y ∷ ys) h =
    elim (put_from lt x y (in_order lt ys) h) [
      | inl same ↦ inl same
      | inr behind ↦ inr (order_from lt x ys behind)
    ]

pub order_to : {X : Type 0} (lt : X → X → Bool) (x : X) (xs : List X) → Member x xs → Member x (in_order lt xs)
order_to lt x [] h = h
order_to lt x (y ∷ ys) (inl same) = put_to lt x y (in_order lt ys) (inl same)
order_to lt x (y ∷ ys) (inr behind) = put_to lt x y (in_order lt ys) (inr (order_to lt x ys behind))

-- ---- each once

pub once_from : (x : Edn) (xs : List Edn) → Member x (distinct_values xs) → Member x xs
once_from x [] h = h
once_from x (y ∷ ys) (inl same) = inl same
once_from x (y ∷ ys) (inr behind) = inr (once_from x ys (filter_from (λ z. not (is_same y z)) x (distinct_values ys) behind).0)

pub once_to : (x : Edn) (xs : List Edn) → Member x xs → (y : Edn) × Member y (distinct_values xs) × (is_same x y ≡ true)
once_to x [] h = absurd h
once_to x (y ∷ ys) (inl same) = (y, inl refl, subst (λ z. is_same z y ≡ true) same (same_itself y))
once_to x (y ∷ ys) (inr behind) =
    let rest = once_to x ys behind in
    elim (is_same x y) as (λ b. is_same x y ≡ b → (z : Edn) × Member z (distinct_values (y ∷ ys)) × (is_same x z ≡ true)) [
      | true ↦ λ is. (y, inl refl, is)
      | false ↦ λ is.
          let other : is_same y rest.0 ≡ false = same_back y rest.0 ∙ sym (same_along x rest.0 y rest.2) ∙ is in
          (rest.0, inr (filter_to (λ z. not (is_same y z)) rest.0 (distinct_values ys) rest.1 (not_from_false (is_same y rest.0) other)), rest.2)
    ] refl
