-- A binary search of values that ascend, and membership whatever the order.
use Rattle.std.proofs.Common.{◌≡◌, ℕ, zero, suc, ◌+◌, ◌≤◌, ◌<◌, Bool, true, false, cond, ◌||◌, List, [], ◌∷◌, length, get_or, refl, sym, ap, ◌∙◌, arith, inl, inr}
use Rattle.std.specs.Prelude.{is_ok, Result, Ok, Err, ◌⊎◌}
use Rattle.std.specs.List.{filter}
use Rattle.std.specs.List.Sorted.{IsSortedBy, IsBinarySearchResult, IsSearchInRange}
use Rattle.std.specs.Ordering.{is_eq}
use Rattle.std.specs.declared.cmp.Ordering.{Ordering}
use Rattle.std.specs.declared.cmp.Ordering.TheVariants.{Less, Equal, Greater}
use Rattle.std.proofs.lemmas.List.Sorted.{searchable_from_sorted}
use Rattle.jh_edn.specs.Edn.{Edn}
use Rattle.jh_edn.specs.Order.{edn_cmp, is_below, in_order, put_in_order}
use Rattle.jh_edn.specs.View.{view, views}
use Rattle.jh_edn.specs.declared.value.Value.{Value}
use Rattle.jh_edn.proofs.CitedLemmas.{edn_total}
use Rattle.jh_check.specs.Distinct.{is_same, has_same_value, is_wanted, count_of, Ascends}
use Rattle.jh_check.proofs.DistinctLemmas.{same_back, count_cons}

abbrev held_below : Value → Value → Bool
held_below v w = is_below (view v) (view w)

neighbours : (vs : List Value) → Ascends (views vs) → (k : ℕ) (d : Value) → k + 1 < length vs → held_below (get_or vs (k + 1) d) (get_or vs k d) ≡ false
neighbours [] a k d less = absurd (omega arith)
neighbours (v ∷ []) a k d less = absurd (omega arith)
neighbours (v ∷ w ∷ vs) a zero d less = a.0.0
neighbours (v ∷ w ∷ vs) a (suc k) d less = let e : suc k + 1 ≡ suc (k + 1) = omega arith in rw e (neighbours (w ∷ vs) a.1 k d (omega arith))

sorted_held : (vs : List Value) → Ascends (views vs) → IsSortedBy held_below vs
sorted_held vs a = λ k d low less. neighbours vs a k d less

is_there : (x : Edn) (vs : List Value) (i : ℕ) (d : Value) → i < length vs → is_same x (view (get_or vs i d)) ≡ true → has_same_value (views vs) x ≡ true
is_there x [] i d less h = absurd (omega arith)
is_there x (v ∷ vs) zero d less h = rw h refl
is_there x (v ∷ vs) (suc i) d less h = rw (is_there x vs i d (omega arith) h) (either (is_same x (view v))) where
  either : (b : Bool) → (b || true) ≡ true
  either true = refl
  either false = refl

is_nowhere : (x : Edn) (vs : List Value) → ((i : ℕ) (d : Value) → i < length vs → is_same x (view (get_or vs i d)) ≡ false) → has_same_value (views vs) x ≡ false
is_nowhere x [] h = refl
is_nowhere x (v ∷ vs) h = rw (h 0 v (omega arith)) (is_nowhere x vs (λ i d less. h (suc i) d (omega arith)))

equal_same : (x y : Edn) → edn_cmp y x ≡ Equal → is_same x y ≡ true
equal_same x y h = same_back x y ∙ ap is_eq h

other_same : (x y : Edn) (o : Ordering) → is_eq o ≡ false → edn_cmp y x ≡ o → is_same x y ≡ false
other_same x y o apart h = same_back x y ∙ ap is_eq h ∙ apart

by_side : {P : Type 0} (i k : ℕ) → (k < i → P) → (i ≤ k → P) → P
by_side i k low high = elim (split i k) [ inl h ↦ low h | inr h ↦ high h ] where
  split : (i k : ℕ) → (k < i) ⊎ (i ≤ k)
  split zero k = inr (omega arith)
  split (suc i) zero = inl (omega arith)
  split (suc i) (suc k) = elim (split i k) [ inl h ↦ inl (omega arith) | inr h ↦ inr (omega arith) ]

-- what a binary search for x finds among values that ascend
pub found_by_search : (x : Edn) (vs : List Value) → Ascends (views vs) → (r : Result ℕ ℕ) → IsSearchInRange r (length vs) → IsBinarySearchResult (λ v. edn_cmp (view v) x) vs r → is_ok r ≡ has_same_value (views vs) x
found_by_search x vs a (Ok i) within at = sym (elim vs as (λ ws. i < length ws → ((d : Value) → edn_cmp (view (get_or ws i d)) x ≡ Equal) → has_same_value (views ws) x ≡ true) [
  | [] ↦ λ less at. absurd (omega arith)
  | v ∷ ws ↦ λ less at. is_there x (v ∷ ws) i v less (equal_same x (view (get_or (v ∷ ws) i v)) (at v))
] within at)
found_by_search x vs a (Err i) within at =
    let parts = at (searchable_from_sorted edn_total view vs x (sorted_held vs a)) in
    let low : (k : ℕ) (d : Value) → k < i → is_same x (view (get_or vs k d)) ≡ false = λ k d less. other_same x (view (get_or vs k d)) Less refl (parts.0 k d (omega arith) less) in
    let high : (k : ℕ) (d : Value) → i ≤ k → k < length vs → is_same x (view (get_or vs k d)) ≡ false = λ k d le less. other_same x (view (get_or vs k d)) Greater refl (parts.1 k d le less) in
    sym (is_nowhere x vs (λ k d less. by_side i k (λ h. low k d h) (λ h. high k d h less)))

-- ---- in any order

among_put : (x y : Edn) (ys : List Edn) → has_same_value (put_in_order is_below y ys) x ≡ has_same_value (y ∷ ys) x
among_put x y [] = refl
among_put x y (z ∷ zs) =
    elim (is_below z y) as (λ b. has_same_value (cond b (z ∷ put_in_order is_below y zs) (y ∷ z ∷ zs)) x ≡ has_same_value (y ∷ z ∷ zs) x) [
      | true ↦ ap (λ w. is_same x z || w) (among_put x y zs) ∙ swap (is_same x z) (is_same x y) (has_same_value zs x)
      | false ↦ refl
    ] where
      swap : (a b c : Bool) → (a || (b || c)) ≡ (b || (a || c))
      swap true true c = refl
      swap true false c = refl
      swap false b c = refl

pub among_in_order : (x : Edn) (ys : List Edn) → has_same_value (in_order is_below ys) x ≡ has_same_value ys x
among_in_order x [] = refl
among_in_order x (y ∷ ys) = among_put x y (in_order is_below ys) ∙ ap (λ w. is_same x y || w) (among_in_order x ys)

count_put : (x y : Edn) (ys : List Edn) → count_of (put_in_order is_below y ys) x ≡ count_of (y ∷ ys) x
count_put x y [] = refl
count_put x y (z ∷ zs) =
    elim (is_below z y) as (λ b. count_of (cond b (z ∷ put_in_order is_below y zs) (y ∷ z ∷ zs)) x ≡ count_of (y ∷ z ∷ zs) x) [
      | true ↦ omega (arith, count_cons x z (put_in_order is_below y zs), count_put x y zs, count_cons x y zs, count_cons x y (z ∷ zs), count_cons x z zs)
      | false ↦ refl
    ]

pub count_in_order : (x : Edn) (ys : List Edn) → count_of (in_order is_below ys) x ≡ count_of ys x
count_in_order x [] = refl
count_in_order x (y ∷ ys) = omega (arith, count_put x y (in_order is_below ys), count_cons x y (in_order is_below ys), count_cons x y ys, count_in_order x ys)

-- ---- what is kept of values, as wanted, by whether it is among the others

pub kept_by : (wanted : Bool) (kept : List Edn) (vs os : List Value) (values others : List Edn)
    → kept ≡ filter (λ x. is_wanted wanted (has_same_value (views os) x)) (views vs) → views vs ≡ values → views os ≡ others
    → kept ≡ filter (λ x. is_wanted wanted (has_same_value others x)) values
kept_by wanted kept vs os values others h v o = h ∙ (λ i. filter (λ x. is_wanted wanted (has_same_value (o i) x)) (v i))

pub kept_by_sorted : (wanted : Bool) (kept : List Edn) (vs os : List Value) (values others : List Edn)
    → kept ≡ filter (λ x. is_wanted wanted (has_same_value (views os) x)) (views vs) → views vs ≡ values → views os ≡ in_order is_below others
    → kept ≡ filter (λ x. is_wanted wanted (has_same_value others x)) values
kept_by_sorted wanted kept vs os values others h v o =
    kept_by wanted kept vs os values (in_order is_below others) h v o ∙ (λ i. filter (λ x. is_wanted wanted (among_in_order x others i)) values)
