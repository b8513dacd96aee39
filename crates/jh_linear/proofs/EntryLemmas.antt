-- Entries that name a number, which are sorted.
use Rattle.std.proofs.Common.{◌≡◌, ℕ, ◌+◌, ◌<◌, ◌≤◌, true, false, eqb, List, [], ◌∷◌, ◌++◌, get_or, map, sym, ap, subst, ◌∙◌, inl, inr, arith, ne_eqb}
use Rattle.std.specs.List.{All, IsDistinct, Contains}
use Rattle.std.specs.List.Sorted.{IsPermutation, IsSorted}
use Rattle.std.specs.Ordering.{nat_cmp, is_lt, ordering_then}
use Rattle.std.proofs.lemmas.Bool.{cases_lt, eqb-true}
use Rattle.std.proofs.lemmas.Bool.Decides.{nat_tests}
use Rattle.std.proofs.lemmas.List.{map-append}
use Rattle.std.proofs.lemmas.Cmp.{nat_eq_equiv}
use Rattle.std.proofs.lemmas.List.Folds.{list_any_none}
use Rattle.std.proofs.lemmas.List.Elements.{All-nil, All-push, All-map, Contains-append_left, Contains-push}
use Rattle.std.proofs.lemmas.List.Sorted.{All-permutation, Contains-permutation, IsPermutation-map, IsNonDecreasingBy-from_all_adjacent}
use Rattle.std.proofs.lemmas.Map.Keys.{IsDistinct-IsPermutation, IsDistinct-from_apart, IsDistinct-push}
use Rattle.jh_linear.specs.SearchInside.{AreNumberEntries, DoNotFall}
use Rattle.jh_linear.proofs.NumberSetLemmas.{same_tests, eqb_self}

flips : (x y : ℕ) → eqb x y ≡ eqb y x
flips x y = same_tests (eqb x y) (eqb y x) (λ e. subst (λ z. eqb z x ≡ true) (eqb-true x y e) (eqb_self x)) (λ e. subst (λ z. eqb z y ≡ true) (eqb-true y x e) (eqb_self y))

module _ {X : Type 0} (Kept : ℕ → Type 0) (entry : ℕ → X) (number : X → ℕ) where
  pub entries_none : AreNumberEntries Kept entry number 0 []
  entries_none = record {
    each = All-nil (λ x. (number x < 0) × Kept (number x) × (entry (number x) ≡ x));
    all = λ p lt k. absurd (omega arith);
    distinct = IsDistinct-from_apart eqb [] (λ i j d lt inside. absurd (omega arith));
  }

  wider : (n : ℕ) (xs : List X) → All (λ x. (number x < n) × Kept (number x) × (entry (number x) ≡ x)) xs → All (λ x. (number x < n + 1) × Kept (number x) × (entry (number x) ≡ x)) xs
  wider n xs h = λ k d lt. let r = h k d lt in (omega (arith, r.0), r.1, r.2)

  pub entries_skip : (n : ℕ) (xs : List X) → (Kept n → ⊥) → AreNumberEntries Kept entry number n xs → AreNumberEntries Kept entry number (n + 1) xs
  entries_skip n xs out e = record {
    each = wider n xs e.each;
    all = λ p lt k. elim (cases_lt p n) as (λ _. Contains xs (entry p)) [
      | inl low ↦ e.all p low k
      | inr high ↦ let is : p ≡ n = omega (arith, lt, high) in absurd (out (subst Kept is k))
    ];
    distinct = e.distinct;
  }

  pub entries_push : (n : ℕ) (xs : List X) (x : X) → number x ≡ n → entry n ≡ x → Kept n → AreNumberEntries Kept entry number n xs → AreNumberEntries Kept entry number (n + 1) (xs ++ x ∷ [])
  entries_push n xs x one is kept e = record {
    each = All-push (λ y. (number y < n + 1) × Kept (number y) × (entry (number y) ≡ y)) xs x (wider n xs e.each) (omega (arith, one), subst Kept (sym one) kept, ap entry one ∙ is);
    all = λ p lt k. elim (cases_lt p n) as (λ _. Contains (xs ++ x ∷ []) (entry p)) [
      | inl low ↦ Contains-append_left xs (x ∷ []) (entry p) (e.all p low k)
      | inr high ↦ let here : p ≡ n = omega (arith, lt, high) in
          subst (λ y. Contains (xs ++ x ∷ []) y) (sym is ∙ ap entry (sym here)) (Contains-push xs x)
    ];
    distinct = subst (IsDistinct eqb) (sym (map-append number xs (x ∷ []))) (IsDistinct-push nat_eq_equiv (map number xs) (number x) e.distinct
        (list_any_none (eqb (number x)) (map number xs) (All-map (λ q. eqb (number x) q ≡ false) number xs (λ k d lt. ne_eqb _ _ (λ same. let low = e.each k d lt in absurd (omega (arith, low.0, same, one)))))));
  }

  pub entries_moved : (n : ℕ) (xs ys : List X) → IsPermutation xs ys → AreNumberEntries Kept entry number n xs → AreNumberEntries Kept entry number n ys
  entries_moved n xs ys moved e = record {
    each = All-permutation (λ x. (number x < n) × Kept (number x) × (entry (number x) ≡ x)) xs ys moved e.each;
    all = λ p lt k. Contains-permutation xs ys (entry p) moved (e.all p lt k);
    distinct = IsDistinct-IsPermutation eqb flips (map number xs) (map number ys) (IsPermutation-map number xs ys moved) e.distinct;
  }

not_below : (a b : ℕ × ℕ) → is_lt (ordering_then (nat_cmp b.0 a.0) (nat_cmp b.1 a.1)) ≡ false → a.0 ≤ b.0
not_below a b h = grind (arith, nat_tests)

pub do_not_fall : (xs : List (ℕ × ℕ)) → IsSorted (λ x y. ordering_then (nat_cmp x.0 y.0) (nat_cmp x.1 y.1)) xs → DoNotFall xs
do_not_fall xs sorted = IsNonDecreasingBy-from_all_adjacent (λ x. x.0) xs (λ k d lt. not_below (get_or xs k d) (get_or xs (k + 1) d) (sorted k d (omega arith) lt))
