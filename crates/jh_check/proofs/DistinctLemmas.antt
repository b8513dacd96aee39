-- Values that ascend, each once, and how often each is there.
use Rattle.std.proofs.Common.{◌≡◌, ℕ, ◌+◌, Bool, true, false, cond, not, List, [], ◌∷◌, map, length, suc, refl, sym, ap, ◌∙◌, arith}
use Rattle.std.specs.List.{filter, dedup, dedup_from}
use Rattle.std.specs.Ordering.{is_lt, is_eq}
use Rattle.std.specs.declared.cmp.Ordering.{Ordering}
use Rattle.std.specs.declared.cmp.Ordering.TheVariants.{Less, Equal, Greater}
use Rattle.std.specs.Ordering.{ordering_reverse}
use Rattle.std.proofs.lemmas.Cmp.{eq_by_cmp_equiv}
use Rattle.std.proofs.lemmas.List.Sums.{sum_by-cons}
use Rattle.jh_edn.specs.Edn.{Edn}
use Rattle.jh_edn.specs.Order.{edn_cmp, is_below, in_order, put_in_order}
use Rattle.jh_edn.specs.View.{view, views}
use Rattle.jh_edn.specs.declared.value.Value.{Value}
use Rattle.jh_edn.proofs.CitedLemmas.{edn_total, below_order}
use Rattle.jh_edn.proofs.CitedLemmas.{in_order_ascends}
use Rattle.jh_check.specs.Distinct.{is_same, count_of, distinct_values, IsLeast, Ascends}

pub same_itself : (x : Edn) → is_same x x ≡ true
same_itself x = (eq_by_cmp_equiv edn_total).refl x

pub same_back : (x y : Edn) → is_same x y ≡ is_same y x
same_back x y = (eq_by_cmp_equiv edn_total).symm x y

pub same_along : (x y z : Edn) → is_same x y ≡ true → is_same x z ≡ is_same y z
same_along x y z h = (eq_by_cmp_equiv edn_total).congr x y z h

-- all but those that are this one
abbrev pub others : Edn → List Edn → List Edn
others x xs = filter (λ y. not (is_same x y)) xs

pub others_twice : (k x : Edn) → is_same k x ≡ true → (xs : List Edn) → others k (others x xs) ≡ others k xs
others_twice k x h [] = refl
others_twice k x h (y ∷ ys) =
    let along : is_same k y ≡ is_same x y = same_along k x y h in
    elim (is_same x y) as (λ b. is_same k y ≡ b → others k (cond (not b) (y ∷ others x ys) (others x ys)) ≡ cond (not (is_same k y)) (y ∷ others k ys) (others k ys)) [
      | true ↦ λ e. rw e (others_twice k x h ys)
      | false ↦ λ e. rw e (ap (λ w. y ∷ w) (others_twice k x h ys))
    ] along

-- none of the values is this one
abbrev pub Apart : Edn → List Edn → Type 0
Apart x [] = Unit {0}
Apart x (y ∷ ys) = (is_same x y ≡ false) × Apart x ys

apart_filter : (x : Edn) (p : Edn → Bool) (ys : List Edn) → Apart x ys → Apart x (filter p ys)
apart_filter x p [] a = tt
apart_filter x p (y ∷ ys) a =
    elim (p y) as (λ b. Apart x (cond b (y ∷ filter p ys) (filter p ys))) [
      | true ↦ (a.0, apart_filter x p ys a.1)
      | false ↦ apart_filter x p ys a.1
    ]

pub apart_once : (x : Edn) (ys : List Edn) → Apart x ys → Apart x (distinct_values ys)
apart_once x [] a = tt
apart_once x (y ∷ ys) a = (a.0, apart_filter x (λ z. not (is_same y z)) (distinct_values ys) (apart_once x ys a.1))

pub others_apart : (x : Edn) (ys : List Edn) → Apart x ys → others x ys ≡ ys
others_apart x [] a = refl
others_apart x (y ∷ ys) a = rw a.0 (ap (λ w. y ∷ w) (others_apart x ys a.1))

pub count_apart : (x : Edn) (ys : List Edn) → Apart x ys → count_of ys x ≡ 0
count_apart x [] a = refl
count_apart x (y ∷ ys) a = let first : count_of (y ∷ ys) x ≡ 0 + count_of ys x = sum_by-cons (λ z. cond (is_same x z) 1 0) y ys ∙ ap (λ b. cond b 1 0 + count_of ys x) a.0 in omega (arith, first, count_apart x ys a.1)

pub count_cons : (x y : Edn) (ys : List Edn) → count_of (y ∷ ys) x ≡ cond (is_same x y) 1 0 + count_of ys x
count_cons x y ys = sum_by-cons (λ z. cond (is_same x z) 1 0) y ys

count_here : (x y : Edn) (ys : List Edn) → is_same x y ≡ true → count_of (y ∷ ys) x ≡ 1 + count_of ys x
count_here x y ys e = count_cons x y ys ∙ ap (λ b. cond b 1 0 + count_of ys x) e

-- what is above a value that is above x is not x
not_same : (x y z : Edn) → is_below y x ≡ false → is_same x y ≡ false → is_below z y ≡ false → is_same x z ≡ false
not_same x y z up apart above =
    elim (is_same x z) as (λ b. is_same x z ≡ b → b ≡ false) [
      | true ↦ λ e. absurd (bad e)
      | false ↦ λ e. refl
    ] refl where
      is_equal : (o : Ordering) → is_eq o ≡ true → o ≡ Equal
      is_equal Less h = absurd cc
      is_equal Equal h = refl
      is_equal Greater h = absurd cc

      is_less : (o r : Ordering) → r ≡ ordering_reverse o → is_lt r ≡ false → is_eq o ≡ false → o ≡ Less
      is_less Less r e h k = refl
      is_less Equal r e h k = absurd cc
      is_less Greater r e h k = absurd (let lt : is_lt r ≡ true = ap is_lt e in cc)

      bad : is_same x z ≡ true → ⊥
      bad e =
          let below : edn_cmp x y ≡ Less = is_less (edn_cmp x y) (edn_cmp y x) (edn_total.antisymm y x) up apart in
          let along : edn_cmp x y ≡ edn_cmp z y = edn_total.congr x z y (is_equal (edn_cmp x z) e) in
          let lt : is_below z y ≡ true = ap is_lt (sym along ∙ below) in
          let clash : true ≡ false = sym lt ∙ above in cc

pub apart_above : (x y : Edn) (zs : List Edn) → is_below y x ≡ false → is_same x y ≡ false → IsLeast y zs → Apart x zs
apart_above x y [] up apart least = tt
apart_above x y (z ∷ zs) up apart least = (not_same x y z up apart least.0, apart_above x y zs up apart least.1)

-- one of two neighbours that are the same is left out
once_same : (k x : Edn) (xs : List Edn) → is_same k x ≡ true → k ∷ others k (distinct_values xs) ≡ k ∷ others k (distinct_values (x ∷ xs))
once_same k x xs h = ap (λ w. k ∷ w) (sym (drop_first ∙ others_twice k x h (distinct_values xs))) where
  drop_first : others k (x ∷ others x (distinct_values xs)) ≡ others k (others x (distinct_values xs))
  drop_first = rw h refl

-- two that are not the same stay
once_apart : (k x : Edn) (xs : List Edn) → is_same k x ≡ false → is_below x k ≡ false → IsLeast x xs → k ∷ distinct_values (x ∷ xs) ≡ k ∷ others k (distinct_values (x ∷ xs))
once_apart k x xs h up least = ap (λ w. k ∷ w) (sym (others_apart k (distinct_values (x ∷ xs)) (apart_once k (x ∷ xs) (h, apart_above k x xs up h least))))

abbrev pub is_again : Value → Value → Bool
is_again value last = is_same (view last) (view value)

dedup_once : (k : Value) (vs : List Value) → IsLeast (view k) (views vs) → Ascends (views vs) → views (dedup_from is_again k vs) ≡ view k ∷ others (view k) (distinct_values (views vs))
dedup_once k [] least a = refl
dedup_once k (v ∷ vs) least a =
    elim (is_same (view k) (view v)) as (λ b. is_same (view k) (view v) ≡ b → views (cond b (dedup_from is_again k vs) (k ∷ dedup_from is_again v vs)) ≡ view k ∷ others (view k) (distinct_values (views (v ∷ vs)))) [
      | true ↦ λ e. dedup_once k vs least.1 a.1 ∙ once_same (view k) (view v) (views vs) e
      | false ↦ λ e. ap (λ w. view k ∷ w) (dedup_once v vs a.0 a.1) ∙ once_apart (view k) (view v) (views vs) e least.0 a.0
    ] refl

-- what is left of values that ascend, where each is left out that is the one before it
pub dedup_is_once : (vs : List Value) → Ascends (views vs) → views (dedup is_again vs) ≡ distinct_values (views vs)
dedup_is_once [] a = refl
dedup_is_once (v ∷ vs) a = dedup_once v vs a.0 a.1

-- ---- what ascends

least_filter : (x : Edn) (p : Edn → Bool) (ys : List Edn) → IsLeast x ys → IsLeast x (filter p ys)
least_filter x p [] a = tt
least_filter x p (y ∷ ys) a =
    elim (p y) as (λ b. IsLeast x (cond b (y ∷ filter p ys) (filter p ys))) [
      | true ↦ (a.0, least_filter x p ys a.1)
      | false ↦ least_filter x p ys a.1
    ]

ascends_filter : (p : Edn → Bool) (ys : List Edn) → Ascends ys → Ascends (filter p ys)
ascends_filter p [] a = tt
ascends_filter p (y ∷ ys) a =
    elim (p y) as (λ b. Ascends (cond b (y ∷ filter p ys) (filter p ys))) [
      | true ↦ (least_filter y p ys a.0, ascends_filter p ys a.1)
      | false ↦ ascends_filter p ys a.1
    ]

least_once : (x : Edn) (ys : List Edn) → IsLeast x ys → IsLeast x (distinct_values ys)
least_once x [] a = tt
least_once x (y ∷ ys) a = (a.0, least_filter x (λ z. not (is_same y z)) (distinct_values ys) (least_once x ys a.1))

pub ascends_once : (ys : List Edn) → Ascends ys → Ascends (distinct_values ys)
ascends_once [] a = tt
ascends_once (y ∷ ys) a = (least_filter y (λ z. not (is_same y z)) (distinct_values ys) (least_once y ys a.0), ascends_filter (λ z. not (is_same y z)) (distinct_values ys) (ascends_once ys a.1))

pub sorted_ascends : (xs : List Edn) → Ascends (in_order is_below xs)
sorted_ascends xs = in_order_ascends is_below below_order xs

-- ---- runs of the same value

-- the runs of a list behind so many of a value
abbrev pub runs : Edn → ℕ → List Edn → List (Edn × ℕ)
runs k n [] = (k, n) ∷ []
runs k n (x ∷ xs) = cond (is_same k x) (runs k (n + 1) xs) ((k, n) ∷ runs x 1 xs)

abbrev counted_in : List Edn → Edn → Edn × ℕ
counted_in xs v = (v, count_of xs v)

-- what is not x is there as often without x
count_others : (x y : Edn) (ys zs : List Edn) → (is_same x y ≡ true) → map (counted_in ys) (others x zs) ≡ map (counted_in (y ∷ ys)) (others x zs)
count_others x y ys [] h = refl
count_others x y ys (z ∷ zs) h =
    elim (is_same x z) as (λ b. is_same x z ≡ b → map (counted_in ys) (cond (not b) (z ∷ others x zs) (others x zs)) ≡ map (counted_in (y ∷ ys)) (cond (not b) (z ∷ others x zs) (others x zs))) [
      | true ↦ λ e. count_others x y ys zs h
      | false ↦ λ e.
          let other : is_same z y ≡ false = same_back z y ∙ sym (same_along x y z h) ∙ e in
          let more : count_of (y ∷ ys) z ≡ count_of ys z = (let step : count_of (y ∷ ys) z ≡ 0 + count_of ys z = count_cons z y ys ∙ ap (λ b. cond b 1 0 + count_of ys z) other in omega (arith, step)) in
          λ i. (z, sym more i) ∷ count_others x y ys zs h i
    ] refl

pub runs_counted : (k : Edn) (n : ℕ) (xs : List Edn) → IsLeast k xs → Ascends xs → runs k n xs ≡ (k, n + count_of xs k) ∷ map (counted_in xs) (others k (distinct_values xs))
runs_counted k n [] least a = let e : n ≡ n + count_of [] k = omega arith in λ i. (k, e i) ∷ []
runs_counted k n (x ∷ xs) least a =
    elim (is_same k x) as (λ b. is_same k x ≡ b → cond b (runs k (n + 1) xs) ((k, n) ∷ runs x 1 xs) ≡ (k, n + count_of (x ∷ xs) k) ∷ map (counted_in (x ∷ xs)) (others k (distinct_values (x ∷ xs)))) [
      | true ↦ λ e.
          let count : count_of (x ∷ xs) k ≡ 1 + count_of xs k = count_here k x xs e in
          let sum : n + 1 + count_of xs k ≡ n + count_of (x ∷ xs) k = omega (arith, count) in
          let rest : others k (distinct_values xs) ≡ others k (distinct_values (x ∷ xs)) = sym ((rw e refl) ∙ others_twice k x e (distinct_values xs)) in
          runs_counted k (n + 1) xs least.1 a.1
          ∙ (λ i. (k, sum i) ∷ count_others k x xs (distinct_values xs) e i)
          ∙ ap (λ w. (k, n + count_of (x ∷ xs) k) ∷ map (counted_in (x ∷ xs)) w) rest
      | false ↦ λ e.
          let apart : Apart k (x ∷ xs) = (e, apart_above k x xs least.0 e a.0) in
          let none : n ≡ n + count_of (x ∷ xs) k = omega (arith, count_apart k (x ∷ xs) apart) in
          let first : 1 + count_of xs x ≡ count_of (x ∷ xs) x = sym (count_here x x xs (same_itself x)) in
          let whole : distinct_values (x ∷ xs) ≡ others k (distinct_values (x ∷ xs)) = sym (others_apart k (distinct_values (x ∷ xs)) (apart_once k (x ∷ xs) apart)) in
          (λ i. (k, none i) ∷ runs_counted x 1 xs a.0 a.1 i)
          ∙ (λ i. (k, n + count_of (x ∷ xs) k) ∷ (x, first i) ∷ count_others x x xs (distinct_values xs) (same_itself x) i)
          ∙ ap (λ w. (k, n + count_of (x ∷ xs) k) ∷ map (counted_in (x ∷ xs)) w) whole
    ] refl

-- the runs of values that ascend give how often each is there
pub runs_are_counts : (x : Edn) (xs : List Edn) → Ascends (x ∷ xs) → runs x 1 xs ≡ map (λ v. (v, count_of (x ∷ xs) v)) (distinct_values (x ∷ xs))
runs_are_counts x xs a =
    let first : 1 + count_of xs x ≡ count_of (x ∷ xs) x = sym (count_here x x xs (same_itself x)) in
    runs_counted x 1 xs a.0 a.1 ∙ (λ i. (x, first i) ∷ count_others x x xs (distinct_values xs) (same_itself x) i)

-- as many stand in order
length_put : (x : Edn) (ys : List Edn) → length (put_in_order is_below x ys) ≡ suc (length ys)
length_put x [] = refl
length_put x (y ∷ ys) =
    elim (is_below y x) as (λ b. length (cond b (y ∷ put_in_order is_below x ys) (x ∷ y ∷ ys)) ≡ suc (length (y ∷ ys))) [
      | true ↦ ap suc (length_put x ys)
      | false ↦ refl
    ]

pub length_in_order : (xs : List Edn) → length (in_order is_below xs) ≡ length xs
length_in_order [] = refl
length_in_order (x ∷ xs) = length_put x (in_order is_below xs) ∙ ap suc (length_in_order xs)
