-- Counts of values, one value after another, and of values in order as of them in any.
use Rattle.std.proofs.Common.{◌≡◌, ℕ, ◌+◌, ◌≤◌, ◌<◌, true, false, cond, List, [], ◌∷◌, ◌++◌, length, take, get_or, map, refl, sym, ap, ◌∙◌, arith}
use Rattle.std.specs.List.{filter, sum_by}
use Rattle.std.proofs.lemmas.List.{map-append}
use Rattle.std.proofs.lemmas.List.Elements.{filter-append}
use Rattle.std.proofs.lemmas.List.Sums.{sum_by-cons, sum_by_push, sum_by_more_le_part}
use Rattle.jh_edn.specs.Edn.{Edn}
use Rattle.jh_edn.specs.Order.{in_order, is_below}
use Rattle.jh_edn.specs.View.{view, views}
use Rattle.jh_edn.specs.declared.value.Value.{Value}
use Rattle.jh_check.specs.Distinct.{is_same, count_of, distinct_values, set_of, Ascends}
use Rattle.jh_check.proofs.DistinctLemmas.{runs, runs_are_counts}
use Rattle.jh_check.proofs.ListLemmas.{mapped_more}
use Rattle.jh_check.proofs.SearchLemmas.{count_in_order}
use Rattle.jh_total_queue.specs.CountsInside.{times_in}
use Rattle.jh_total_queue.specs.TotalQueue.{above_zero, is_counted, tally_of}
use Rattle.jh_total_queue.specs.declared.lists.Times.{Times}

-- ---- one value more

above_zero-append : (count : Edn → ℕ) (xs ys : List Edn) → above_zero count (xs ++ ys) ≡ above_zero count xs ++ above_zero count ys
above_zero-append count xs ys =
    let entry : Edn → Edn × ℕ = λ x. (x, count x) in
    ap (filter is_counted) (map-append entry xs ys) ∙ filter-append is_counted (map entry xs) (map entry ys)

pub above_zero_more : (count : Edn → ℕ) (vs : List Value) (i : ℕ) (v : Value) (n : ℕ) (found : List (Edn × ℕ)) → i < length vs → v ≡ get_or vs i v → n ≡ count (view v)
    → found ≡ above_zero count (views (take i vs)) → found ++ filter is_counted ((view v, n) ∷ []) ≡ above_zero count (views (take (i + 1) vs))
above_zero_more count vs i v n found less at e h =
    (λ k. h k ++ filter is_counted ((view v, e k) ∷ []))
    ∙ sym (above_zero-append count (views (take i vs)) (view v ∷ []))
    ∙ ap (above_zero count) (sym (mapped_more view vs i v less at))

pub total_more : (f : Edn → ℕ) (vs : List Value) (i : ℕ) (v : Value) (total n : ℕ) → i < length vs → v ≡ get_or vs i v → n ≡ f (view v)
    → total ≡ sum_by f (views (take i vs)) → total + n ≡ sum_by f (views (take (i + 1) vs))
total_more f vs i v total n less at e h =
    (λ k. h k + e k) ∙ sym (sum_by_push f (views (take i vs)) (view v)) ∙ ap (sum_by f) (sym (mapped_more view vs i v less at))

sum_mapped : {A B : Type 0} (f : B → ℕ) (g : A → B) (xs : List A) → sum_by f (map g xs) ≡ sum_by (λ x. f (g x)) xs
sum_mapped f g [] = refl
sum_mapped f g (x ∷ xs) =
    sum_by-cons f (g x) (map g xs) ∙ ap (λ n. f (g x) + n) (sum_mapped f g xs) ∙ sym (sum_by-cons (λ y. f (g y)) x xs)

pub total_fits : (f g : Edn → ℕ) → ((x : Edn) → f x ≤ g x) → (vs : List Value) (i : ℕ) (v : Value) (total n : ℕ) → i < length vs → v ≡ get_or vs i v → n ≡ f (view v)
    → total ≡ sum_by f (views (take i vs)) → total + n ≤ sum_by g (views vs)
total_fits f g below vs i v total n less at e h =
    let part = sum_by_more_le_part (λ w. f (view w)) (λ w. g (view w)) vs i v less (λ w. below (view w)) in
    let one : n ≤ g (view (get_or vs i v)) = omega (arith, e, below (view v), ap (λ w. g (view w)) at) in
    let sum : total ≡ sum_by (λ w. f (view w)) (take i vs) = h ∙ sum_mapped f view (take i vs) in
    let whole : sum_by g (views vs) ≡ sum_by (λ w. g (view w)) vs = sum_mapped g view vs in
    omega (arith, part, one, sum, whole)

-- ---- the counts of all values

runs_total : (k : Edn) (n : ℕ) (xs : List Edn) → sum_by (λ p. p.1) (runs k n xs) ≡ n + length xs
runs_total k n [] = sum_by-cons (λ (p : Edn × ℕ). p.1) (k, n) []
runs_total k n (x ∷ xs) =
    elim (is_same k x) as (λ b. sum_by (λ p. p.1) (cond b (runs k (n + 1) xs) ((k, n) ∷ runs x 1 xs)) ≡ n + length (x ∷ xs)) [
      | true ↦ omega (arith, runs_total k (n + 1) xs)
      | false ↦ omega (arith, sum_by-cons (λ (p : Edn × ℕ). p.1) (k, n) (runs x 1 xs), runs_total x 1 xs)
    ]

-- they are as many as the values
pub counts_total : (xs : List Edn) → Ascends xs → sum_by (count_of xs) (distinct_values xs) ≡ length xs
counts_total [] a = refl
counts_total (x ∷ xs) a =
    let entry : Edn → Edn × ℕ = λ v. (v, count_of (x ∷ xs) v) in
    let long : 1 + length xs ≡ length (x ∷ xs) = omega arith in
    sym (sum_mapped (λ p. p.1) entry (distinct_values (x ∷ xs))) ∙ ap (sum_by (λ p. p.1)) (sym (runs_are_counts x xs a)) ∙ runs_total x 1 xs ∙ long

-- ---- each value once

-- those behind a value that begin a run of the same
abbrev pub begun : Edn → List Edn → List Edn
begun k [] = []
begun k (x ∷ xs) = cond (is_same k x) (begun k xs) (x ∷ begun x xs)

abbrev first_of : Edn × ℕ → Edn
first_of p = p.0

firsts_of_runs : (k : Edn) (n : ℕ) (xs : List Edn) → map first_of (runs k n xs) ≡ k ∷ begun k xs
firsts_of_runs k n [] = refl
firsts_of_runs k n (x ∷ xs) =
    elim (is_same k x) as (λ b. map first_of (cond b (runs k (n + 1) xs) ((k, n) ∷ runs x 1 xs)) ≡ k ∷ cond b (begun k xs) (x ∷ begun x xs)) [
      | true ↦ firsts_of_runs k (n + 1) xs
      | false ↦ ap (λ w. k ∷ w) (firsts_of_runs x 1 xs)
    ]

firsts_of_entries : (entry : Edn → Edn × ℕ) → ((x : Edn) → (entry x).0 ≡ x) → (xs : List Edn) → map first_of (map entry xs) ≡ xs
firsts_of_entries entry is [] = refl
firsts_of_entries entry is (x ∷ xs) = λ i. is x i ∷ firsts_of_entries entry is xs i

pub begun_are_once : (x : Edn) (xs : List Edn) → Ascends (x ∷ xs) → x ∷ begun x xs ≡ distinct_values (x ∷ xs)
begun_are_once x xs a =
    let entry : Edn → Edn × ℕ = λ v. (v, count_of (x ∷ xs) v) in
    sym (firsts_of_runs x 1 xs) ∙ ap (map first_of) (runs_are_counts x xs a) ∙ firsts_of_entries entry (λ v. refl) (distinct_values (x ∷ xs))

-- ---- in order or in any

module _ (attempts enqueues dequeues tried known taken : List Edn) (a : tried ≡ in_order is_below attempts) (e : known ≡ in_order is_below enqueues) (d : taken ≡ in_order is_below dequeues) where
  same_times : (x : Edn) → times_in tried known taken x ≡ times_in attempts enqueues dequeues x
  same_times x =
      (λ i. times_in (a i) (e i) (d i) x)
      ∙ (λ i. record { attempted = count_in_order x attempts i; enqueued = count_in_order x enqueues i; dequeued = count_in_order x dequeues i })

  pub part_found : (f : Times → ℕ) (vs values : List Edn) (found : List (Edn × ℕ)) → vs ≡ set_of values
      → found ≡ above_zero (λ x. f (times_in tried known taken x)) vs → found ≡ tally_of (λ x. f (times_in attempts enqueues dequeues x)) values
  part_found f vs values found v h = h ∙ (λ i. above_zero (λ x. f (same_times x i)) (v i))

  pub total_found : (f : Times → ℕ) (vs values : List Edn) (total : ℕ) → vs ≡ set_of values
      → total ≡ sum_by (λ x. f (times_in tried known taken x)) vs → total ≡ sum_by (λ x. f (times_in attempts enqueues dequeues x)) (set_of values)
  total_found f vs values total v h = h ∙ (λ i. sum_by (λ x. f (same_times x i)) (v i))
