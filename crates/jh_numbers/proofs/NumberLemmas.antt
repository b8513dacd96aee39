-- Which number a value has: at most one, and none that another value has.
use Rattle.std.proofs.Common.{◌≡◌, ◌∙◌, ℕ, zero, suc, Bool, true, false, List, [], ◌∷◌, ◌++◌, Option, Some, None, slice_get, refl, sym, ap, subst, true≢false}
use Rattle.std.proofs.lemmas.Map.Keys.{IsDistinct-head, IsDistinct-tail}
use Rattle.std.specs.Cmp.{partial_equiv_from_equiv}
use Rattle.std.specs.Prelude.{if◌then◌else◌}
use Rattle.std.specs.List.{AllByRecursion, IsDistinct, list_any}
use Rattle.jh_edn.specs.Edn.{Edn}
use Rattle.jh_numbers.specs.SameInside.{same_equiv}
use Rattle.jh_numbers.specs.Numbers.{HasNumber, is_same_owned, with_value}

-- what holds of all holds of the one at an index
of_all : {X : Type 0} (P : X → Type 0) (xs : List X) → AllByRecursion P xs → (n : ℕ) (x : X) → slice_get xs n ≡ Some x → P x
of_all {X} P [] all n x e = absurd (let none : ◌≡◌ {A = Option X} None (Some x) = e in cc)
of_all P (y ∷ ys) all zero x e = subst P (let same : Some y ≡ Some x = e in cc) all.0
of_all P (y ∷ ys) all (suc n) x e = of_all P ys all.1 n x e

-- where a list goes on, what stands in it stays
pub stays_in : {X : Type 0} (xs ys : List X) (n : ℕ) (x : X) → slice_get xs n ≡ Some x → slice_get (xs ++ ys) n ≡ Some x
stays_in {X} [] ys n x e = absurd (let none : ◌≡◌ {A = Option X} None (Some x) = e in cc)
stays_in (y ∷ xs) ys zero x e = e
stays_in (y ∷ xs) ys (suc n) x e = stays_in xs ys n x e

-- of a list without repeats, two that are one stand at one place
pub one_place : (xs : List (ℕ × Edn)) → IsDistinct is_same_owned xs → (n m : ℕ) (x y : ℕ × Edn) → slice_get xs n ≡ Some x → slice_get xs m ≡ Some y → is_same_owned x y ≡ true → n ≡ m
one_place [] d n m x y e f s = absurd (let none : ◌≡◌ {A = Option (ℕ × Edn)} None (Some x) = e in cc)
one_place (z ∷ xs) d zero zero x y e f s = refl
one_place (z ∷ xs) d zero (suc m) x y e f s =
    let apart = of_all (λ y. is_same_owned z y ≡ false) xs (IsDistinct-head is_same_owned z xs d) m y f in
    let same : z ≡ x = (let both : Some z ≡ Some x = e in cc) in
    absurd (true≢false (sym s ∙ ap (λ a. is_same_owned a y) (sym same) ∙ apart))
one_place (z ∷ xs) d (suc n) zero x y e f s =
    let apart = of_all (λ y. is_same_owned z y ≡ false) xs (IsDistinct-head is_same_owned z xs d) n x e in
    let same : z ≡ y = (let both : Some z ≡ Some y = f in cc) in
    absurd (true≢false (sym s ∙ same_equiv.symm x y ∙ ap (λ a. is_same_owned a x) (sym same) ∙ apart))
one_place (z ∷ xs) d (suc n) (suc m) x y e f s = ap suc (one_place xs (IsDistinct-tail is_same_owned z xs d) n m x y e f s)

-- two that are one with a third are one
joined : (a b c : ℕ × Edn) → is_same_owned a c ≡ true → is_same_owned b c ≡ true → is_same_owned a b ≡ true
joined a b c p q = (partial_equiv_from_equiv same_equiv).trans a c b p (same_equiv.symm c b ∙ q)

pub told : (values : List (ℕ × Edn)) (one other : ℕ × Edn) (number : ℕ) → HasNumber values one number → HasNumber values other number → is_same_owned one other ≡ true
told values one other number h k =
    let same : h.0 ≡ k.0 = (let both : Some h.0 ≡ Some k.0 = sym h.1 ∙ k.1 in cc) in
    joined one other k.0 (subst (λ v. is_same_owned one v ≡ true) same h.2) k.2

pub alike : (values : List (ℕ × Edn)) (one other : ℕ × Edn) (first second : ℕ) → IsDistinct is_same_owned values → HasNumber values one first → HasNumber values other second → is_same_owned one other ≡ true → first ≡ second
alike values one other first second d h k s =
    one_place values d first second h.0 k.0 h.1 k.1 (joined h.0 k.0 one (same_equiv.symm h.0 one ∙ h.2) ((partial_equiv_from_equiv same_equiv).trans k.0 other one (same_equiv.symm k.0 other ∙ k.2) (same_equiv.symm other one ∙ s)))

stays_with : (values : List (ℕ × Edn)) (one other : ℕ × Edn) (number : ℕ) (is_old : Bool) → HasNumber values one number → HasNumber (if is_old then values else values ++ other ∷ []) one number
stays_with values one other number true h = h
stays_with values one other number false h = (h.0, stays_in values (other ∷ []) number h.0 h.1, h.2)

pub stays : (values : List (ℕ × Edn)) (one other : ℕ × Edn) (number : ℕ) → HasNumber values one number → HasNumber (with_value values other) one number
stays values one other number h = stays_with values one other number (list_any (is_same_owned other) values) h
