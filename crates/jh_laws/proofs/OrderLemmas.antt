-- What is so of each of a list, or of each two, in any order.
use Rattle.std.proofs.Common.{◌≡◌, ℕ, suc, ◌<◌, Bool, true, false, cond, List, [], ◌∷◌, length, get_or, take, refl, ◌∙◌, arith}
use Rattle.std.specs.List.{AllByRecursion, list_any}
use Rattle.std.proofs.lemmas.Bool.{or_parts, or_from}
use Rattle.std.proofs.lemmas.List.Folds.{list_any_none}
use Rattle.jh_edn.specs.Order.{put_in_order, in_order}
use Rattle.jh_env.specs.Faults.{AreApart}

-- ---- of each

put_all : {X : Type 0} (lt : X → X → Bool) (P : X → Type 0) (x : X) (xs : List X) → P x → AllByRecursion P xs → AllByRecursion P (put_in_order lt x xs)
put_all lt P x [] h all = (h, tt)
put_all lt P x (y ∷ ys) h all =
    elim (lt y x) as (λ t. AllByRecursion P (cond t (y ∷ put_in_order lt x ys) (x ∷ y ∷ ys))) [
      | true ↦ (all.0, put_all lt P x ys h all.1)
      | false ↦ (h, all)
    ]

pub all_in_order : {X : Type 0} (lt : X → X → Bool) (P : X → Type 0) (xs : List X) → AllByRecursion P xs → AllByRecursion P (in_order lt xs)
all_in_order lt P [] all = tt
all_in_order lt P (x ∷ xs) all = put_all lt P x (in_order lt xs) all.0 (all_in_order lt P xs all.1)

-- ---- of none

pub none_from : {X : Type 0} (p : X → Bool) (xs : List X) → AllByRecursion (λ x. p x ≡ false) xs → list_any p xs ≡ false
none_from p [] all = refl
none_from p (x ∷ xs) all = or_from (p x) (list_any p xs) all.0 (none_from p xs all.1)

pub none_each : {X : Type 0} (p : X → Bool) (xs : List X) → list_any p xs ≡ false → AllByRecursion (λ x. p x ≡ false) xs
none_each p [] none = tt
none_each p (x ∷ xs) none = let parts = or_parts (p x) (list_any p xs) none in (parts.0, none_each p xs parts.1)

pub none_in_order : {X : Type 0} (lt : X → X → Bool) (p : X → Bool) (xs : List X) → list_any p xs ≡ false → list_any p (in_order lt xs) ≡ false
none_in_order lt p xs none = none_from p (in_order lt xs) (all_in_order lt (λ x. p x ≡ false) xs (none_each p xs none))

-- ---- of each two

-- each is unlike those behind it
abbrev pub Apart : {X : Type 0} → (X → X → Bool) → List X → Type 0
Apart same [] = Unit {0}
Apart same (x ∷ xs) = (list_any (same x) xs ≡ false) × Apart same xs

pub apart_behind : {X : Type 0} (same : X → X → Bool) (xs : List X) → AreApart same xs → Apart same xs
apart_behind same [] apart = tt
apart_behind {X = X} same (x ∷ xs) apart = (list_any_none (same x) xs (λ i d below. (here i d below).0), apart_behind same xs (λ i d below. (here i d below).1))
  where
    here : (i : ℕ) (d : X) → i < length xs → (same x (get_or xs i d) ≡ false) × (list_any (λ y. same y (get_or xs i d)) (take i xs) ≡ false)
    here i d below = or_parts (same x (get_or xs i d)) (list_any (λ y. same y (get_or xs i d)) (take i xs)) (apart (suc i) d (omega (arith, below)))

module _ {X : Type 0} (same : X → X → Bool) (turns : (x y : X) → same x y ≡ same y x) (lt : X → X → Bool) where
  put_apart : (x : X) (xs : List X) → list_any (same x) xs ≡ false → Apart same xs → Apart same (put_in_order lt x xs)
  put_apart x [] none apart = (refl, tt)
  put_apart x (y ∷ ys) none apart =
      let parts = or_parts (same x y) (list_any (same x) ys) none in
      let behind = put_all lt (λ z. same y z ≡ false) x ys (turns y x ∙ parts.0) (none_each (same y) ys apart.0) in
      elim (lt y x) as (λ t. Apart same (cond t (y ∷ put_in_order lt x ys) (x ∷ y ∷ ys))) [
        | true ↦ (none_from (same y) (put_in_order lt x ys) behind, put_apart x ys parts.1 apart.1)
        | false ↦ (none, apart)
      ]

  pub apart_in_order : (xs : List X) → Apart same xs → Apart same (in_order lt xs)
  apart_in_order [] apart = tt
  apart_in_order (x ∷ xs) apart = put_apart x (in_order lt xs) (none_in_order lt (same x) xs apart.0) (apart_in_order xs apart.1)
