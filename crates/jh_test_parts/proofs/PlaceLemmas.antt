-- What is found at places in order is found by going through all places.
use Rattle.std.proofs.Common.{◌≡◌, ℕ, ◌+◌, ◌<◌, ◌≤◌, suc, zero, Bool, true, false, cond, List, [], ◌∷◌, ◌++◌, map}
use Rattle.std.proofs.Common.{refl, sym, ap, ap₂, ◌∙◌, arith, inl, inr, ◌||◌}
use Rattle.std.proofs.Math.Bool.{and_comm}
use Rattle.std.proofs.lemmas.Bool.{cases_lt}
use Rattle.std.proofs.lemmas.Bool.Decides.{nat_tests}
use Rattle.std.specs.Prelude.{Option, None, filter_map, if◌then◌else◌}
use Rattle.std.specs.declared.cmp.Ordering.{Ordering}
use Rattle.std.specs.declared.cmp.Ordering.TheVariants.{Less, Equal, Greater}
use Rattle.std.specs.Ordering.{nat_cmp, ordering_then, is_eq}
use Rattle.std.specs.BTreeMap.{is_at}
use Rattle.std.specs.Cmp.{IsEquivalence, IsTotalOrder}
use Rattle.std.specs.List.{AllByRecursion, cons_option, dedup, filter, flat_map, list_any, range_with_len}
use Rattle.std.specs.List.Sorted.{IsStrictlySortedBy}
use Rattle.std.proofs.lemmas.Cmp.{nat_cmp_total, on_total, then_total, tied_itself}
use Rattle.std.proofs.lemmas.List.Elements.{filter_map-append}
use Rattle.std.proofs.lemmas.List.Folds.{Any-from_list_any, list_any-append, list_any-from_Any}
use Rattle.std.proofs.lemmas.List.Kept.{Any-dedup, Contains-from_dedup, IsStrictlySortedBy-filter}
use Rattle.std.proofs.lemmas.Map.Lookups.{CmpEqualImpliesEq, btree_set_from_contains, exact_pairs, exact_unsigned}
use Rattle.std.proofs.lemmas.Map.Views.{any-filter_same}
use Rattle.jh_test_parts.specs.ChangesInside.{link_cmp}

-- the list has one that the order does not tell from this one
abbrev pub has : {K : Type 0} → (K → K → Ordering) → List K → K → Bool
has R xs x = list_any (is_at (R x)) xs

tied : (o : Ordering) → is_eq o ≡ true → o ≡ Equal
tied Less e = cc
tied Equal e = refl
tied Greater e = cc

true_false : true ≡ false → ⊥
true_false e = cc

-- what is in both of two lists in order is the same, taken out of either
same_found : {K : Type 0} {R : K → K → Ordering} (o : IsTotalOrder R) (exact : CmpEqualImpliesEq R) (xs ys : List K) → IsStrictlySortedBy R xs → IsStrictlySortedBy R ys
    → filter (has R ys) xs ≡ filter (has R xs) ys
same_found {K} {R} o exact xs ys one other =
    btree_set_from_contains o (record { keys = filter (has R ys) xs }) (record { keys = filter (has R xs) ys })
    (IsStrictlySortedBy-filter R (has R ys) xs one) (IsStrictlySortedBy-filter R (has R xs) ys other) same exact
  where
    alike : (zs : List K) (k j : K) → is_at (R k) j ≡ true → has R zs j ≡ has R zs k
    alike zs k j at = ap (has R zs) (sym (exact k j (tied (R k j) at)))

    same : (k : K) → list_any (is_at (R k)) (filter (has R ys) xs) ≡ list_any (is_at (R k)) (filter (has R xs) ys)
    same k =
        any-filter_same (is_at (R k)) (has R ys) (has R ys k) (alike ys k) xs
        ∙ and_comm (has R ys k) (has R xs k)
        ∙ sym (any-filter_same (is_at (R k)) (has R xs) (has R xs k) (alike xs k) ys)

-- nothing is lost with those that fail, where these give nothing
found_kept : {K X : Type 0} (h : K → Option X) (p : K → Bool) → ((k : K) → p k ≡ false → h k ≡ None) → (ks : List K) → filter_map h (filter p ks) ≡ filter_map h ks
found_kept h p none [] = refl
found_kept {K} {X} h p none (k ∷ ks) = go (p k) refl (found_kept h p none ks)
  where
    go : (b : Bool) → p k ≡ b → filter_map h (filter p ks) ≡ filter_map h ks → filter_map h (cond b (k ∷ filter p ks) (filter p ks)) ≡ cons_option (h k) (filter_map h ks)
    go true e rest = ap (cons_option (h k)) rest
    go false e rest = rest ∙ ap (λ (w : Option X). cons_option w (filter_map h ks)) (sym (none k e))

-- a test before the search, or at each element
found_passed : {K X : Type 0} (h : K → Option X) (p : K → Bool) (ks : List K) → filter_map h (filter p ks) ≡ filter_map (λ k. if p k then h k else None) ks
found_passed h p [] = refl
found_passed {K} {X} h p (k ∷ ks) = go (p k) (found_passed h p ks)
  where
    go : (b : Bool) → filter_map h (filter p ks) ≡ filter_map (λ k. if p k then h k else None) ks
        → filter_map h (cond b (k ∷ filter p ks) (filter p ks)) ≡ cons_option (if b then h k else None) (filter_map (λ k. if p k then h k else None) ks)
    go true rest = ap (cons_option (h k)) rest
    go false rest = rest

-- What is found in a list in order is found in another one that has each element which gives anything: there those
-- that the first has are taken.
found_in_order : {K X : Type 0} {R : K → K → Ordering} (o : IsTotalOrder R) (exact : CmpEqualImpliesEq R) (xs ys : List K) (h : K → Option X) → IsStrictlySortedBy R xs → IsStrictlySortedBy R ys
    → ((k : K) → has R ys k ≡ false → h k ≡ None) → filter_map h xs ≡ filter_map (λ k. if has R xs k then h k else None) ys
found_in_order {K} {X} {R} o exact xs ys h one other none =
    sym (found_kept h (has R ys) none xs) ∙ ap (filter_map h) (same_found o exact xs ys one other) ∙ found_passed h (has R xs) ys

-- the numbers of a range are in order, and all there

less : (x y : ℕ) → x < y → nat_cmp x y ≡ Less
less x y h = grind (arith, nat_tests)

above : (x a n : ℕ) → x < a → AllByRecursion (λ y. nat_cmp x y ≡ Less) (range_with_len a n)
above x a zero h = tt
above x a (suc n) h = (less x a h, above x (a + 1) n (omega arith))

range_sorted : (a n : ℕ) → IsStrictlySortedBy nat_cmp (range_with_len a n)
unfolding IsStrictlySortedBy
range_sorted a zero = tt
range_sorted a (suc n) = (above a (a + 1) n (omega arith), range_sorted (a + 1) n)

or_left : (a b : Bool) → a ≡ true → (a || b) ≡ true
or_left a b e = ap (λ w. w || b) e

or_right : (a b : Bool) → b ≡ true → (a || b) ≡ true
or_right true b e = refl
or_right false b e = e

at_itself : (k a : ℕ) → k ≡ a → is_at (nat_cmp k) a ≡ true
at_itself k a e = ap (λ j. is_at (nat_cmp k) j) (sym e) ∙ ap is_eq (tied_itself nat_cmp_total k)

range_has : (a n k : ℕ) → a ≤ k → k < a + n → has nat_cmp (range_with_len a n) k ≡ true
range_has a zero k low high = absurd (omega arith)
range_has a (suc n) k low high = elim (cases_lt a k) [
  | inl more ↦ or_right (is_at (nat_cmp k) a) (has nat_cmp (range_with_len (a + 1) n) k) (range_has (a + 1) n k (omega arith) (omega arith))
  | inr le ↦ or_left (is_at (nat_cmp k) a) (has nat_cmp (range_with_len (a + 1) n) k) (at_itself k a (omega arith))
]

-- the order of links is one

link_total : IsTotalOrder link_cmp
link_total = then_total (on_total (λ (k : ℕ × ℕ). k.0) nat_cmp_total) (on_total (λ (k : ℕ × ℕ). k.1) nat_cmp_total)

link_exact : CmpEqualImpliesEq link_cmp
link_exact = exact_pairs nat_cmp nat_cmp exact_unsigned exact_unsigned

-- each of the one list with each of the other
abbrev grid : List ℕ → List ℕ → List (ℕ × ℕ)
grid xs ys = flat_map (λ a. map (λ b. (a, b)) ys) xs

all_append : {K : Type 0} (P : K → Type 0) (xs ys : List K) → AllByRecursion P xs → AllByRecursion P ys → AllByRecursion P (xs ++ ys)
all_append P [] ys one other = other
all_append P (x ∷ xs) ys one other = (one.0, all_append P xs ys one.1 other)

sorted_append : {K : Type 0} (R : K → K → Ordering) (xs ys : List K) → IsStrictlySortedBy R xs → IsStrictlySortedBy R ys
    → AllByRecursion (λ x. AllByRecursion (λ y. R x y ≡ Less) ys) xs → IsStrictlySortedBy R (xs ++ ys)
unfolding IsStrictlySortedBy
sorted_append R [] ys one other apart = other
sorted_append R (x ∷ xs) ys one other apart =
    (all_append (λ y. R x y ≡ Less) xs ys one.0 apart.0, sorted_append R xs ys one.1 other apart.1)

-- a row is in order

row_before : (a b : ℕ) (ys : List ℕ) → AllByRecursion (λ y. nat_cmp b y ≡ Less) ys → AllByRecursion (λ (k : ℕ × ℕ). link_cmp (a, b) k ≡ Less) (map (λ c. (a, c)) ys)
row_before a b [] all = tt
row_before a b (y ∷ ys) all = (ap (λ o. ordering_then o (nat_cmp b y)) (tied_itself nat_cmp_total a) ∙ all.0, row_before a b ys all.1)

row_sorted : (a : ℕ) (ys : List ℕ) → IsStrictlySortedBy nat_cmp ys → IsStrictlySortedBy link_cmp (map (λ b. (a, b)) ys)
unfolding IsStrictlySortedBy
row_sorted a [] all = tt
row_sorted a (y ∷ ys) all = (row_before a y ys all.0, row_sorted a ys all.1)

-- and each row is before the next

below_row : (a b x : ℕ) (ys : List ℕ) → nat_cmp a x ≡ Less → AllByRecursion (λ (k : ℕ × ℕ). link_cmp (a, b) k ≡ Less) (map (λ c. (x, c)) ys)
below_row a b x [] h = tt
below_row a b x (y ∷ ys) h = (ap (λ o. ordering_then o (nat_cmp b y)) h, below_row a b x ys h)

below_rows : (a b : ℕ) (xs ys : List ℕ) → AllByRecursion (λ x. nat_cmp a x ≡ Less) xs → AllByRecursion (λ (k : ℕ × ℕ). link_cmp (a, b) k ≡ Less) (grid xs ys)
below_rows a b [] ys all = tt
below_rows a b (x ∷ xs) ys all =
    all_append (λ (k : ℕ × ℕ). link_cmp (a, b) k ≡ Less) (map (λ c. (x, c)) ys) (grid xs ys) (below_row a b x ys all.0) (below_rows a b xs ys all.1)

row_below : (a : ℕ) (cs xs ys : List ℕ) → AllByRecursion (λ x. nat_cmp a x ≡ Less) xs
    → AllByRecursion (λ (j : ℕ × ℕ). AllByRecursion (λ (k : ℕ × ℕ). link_cmp j k ≡ Less) (grid xs ys)) (map (λ c. (a, c)) cs)
row_below a [] xs ys all = tt
row_below a (c ∷ cs) xs ys all = (below_rows a c xs ys all, row_below a cs xs ys all)

grid_sorted : (xs ys : List ℕ) → IsStrictlySortedBy nat_cmp xs → IsStrictlySortedBy nat_cmp ys → IsStrictlySortedBy link_cmp (grid xs ys)
unfolding IsStrictlySortedBy
grid_sorted [] ys one other = tt
grid_sorted (x ∷ xs) ys one other =
    sorted_append link_cmp (map (λ b. (x, b)) ys) (grid xs ys) (row_sorted x ys other) (grid_sorted xs ys one.1 other) (row_below x ys xs ys one.0)

-- the grid has each pair

row_has : (a b x : ℕ) (ys : List ℕ) → is_at (nat_cmp a) x ≡ true → has link_cmp (map (λ c. (x, c)) ys) (a, b) ≡ has nat_cmp ys b
row_has a b x [] h = refl
row_has a b x (y ∷ ys) h =
    ap₂ (λ o w. is_eq (ordering_then o (nat_cmp b y)) || w) (tied (nat_cmp a x) h) (row_has a b x ys h)

grid_has : (a b : ℕ) (xs ys : List ℕ) → has nat_cmp xs a ≡ true → has nat_cmp ys b ≡ true → has link_cmp (grid xs ys) (a, b) ≡ true
grid_has a b [] ys one other = one
grid_has a b (x ∷ xs) ys one other =
    list_any-append (is_at (link_cmp (a, b))) (map (λ c. (x, c)) ys) (grid xs ys) ∙ go (is_at (nat_cmp a) x) refl (λ rest. grid_has a b xs ys rest other)
  where
    go : (w : Bool) → is_at (nat_cmp a) x ≡ w → (has nat_cmp xs a ≡ true → has link_cmp (grid xs ys) (a, b) ≡ true)
        → (has link_cmp (map (λ c. (x, c)) ys) (a, b) || has link_cmp (grid xs ys) (a, b)) ≡ true
    go true e rest = or_left (has link_cmp (map (λ c. (x, c)) ys) (a, b)) (has link_cmp (grid xs ys) (a, b)) (row_has a b x ys e ∙ other)
    go false e rest = or_right (has link_cmp (map (λ c. (x, c)) ys) (a, b)) (has link_cmp (grid xs ys) (a, b)) (rest (ap (λ w. w || has nat_cmp xs a) (sym e) ∙ one))

-- what is found in a grid is found row by row

found_map : {J K X : Type 0} (f : J → K) (h : K → Option X) (js : List J) → filter_map h (map f js) ≡ filter_map (λ j. h (f j)) js
found_map f h [] = refl
found_map f h (j ∷ js) = ap (cons_option (h (f j))) (found_map f h js)

pub found_flat : {J K X : Type 0} (f : J → List K) (h : K → Option X) (js : List J) → filter_map h (flat_map f js) ≡ flat_map (λ j. filter_map h (f j)) js
found_flat f h [] = refl
found_flat f h (j ∷ js) = filter_map-append h (f j) (flat_map f js) ∙ ap (λ l. filter_map h (f j) ++ l) (found_flat f h js)

pub flat_same : {J A : Type 0} (f g : J → List A) → ((j : J) → f j ≡ g j) → (js : List J) → flat_map f js ≡ flat_map g js
flat_same f g same [] = refl
flat_same f g same (j ∷ js) = ap₂ (λ x y. x ++ y) (same j) (flat_same f g same js)

pub filter_same : {J A : Type 0} (h g : J → Option A) → ((j : J) → h j ≡ g j) → (js : List J) → filter_map h js ≡ filter_map g js
filter_same h g same [] = refl
filter_same h g same (j ∷ js) = ap₂ cons_option (same j) (filter_same h g same js)

found_by_row : {X : Type 0} (h : ℕ × ℕ → Option X) (xs ys : List ℕ) → filter_map h (grid xs ys) ≡ flat_map (λ a. filter_map (λ b. h (a, b)) ys) xs
found_by_row h xs ys =
    found_flat (λ a. map (λ b. (a, b)) ys) h xs
    ∙ flat_same (λ a. filter_map h (map (λ b. (a, b)) ys)) (λ a. filter_map (λ b. h (a, b)) ys) (λ a. found_map (λ (b : ℕ). (a, b)) h ys) xs

-- What is found at pairs in order is found by going through all pairs of numbers below one, where others give nothing.
pub found_at_pairs : {X : Type 0} (h : ℕ × ℕ → Option X) (n : ℕ) (places : List (ℕ × ℕ)) → IsStrictlySortedBy link_cmp places
    → ((a b : ℕ) → n ≤ a → h (a, b) ≡ None) → ((a b : ℕ) → n ≤ b → h (a, b) ≡ None)
    → filter_map h places
    ≡ flat_map (λ a. filter_map (λ b. if has link_cmp places (a, b) then h (a, b) else None) (range_with_len 0 n)) (range_with_len 0 n)
found_at_pairs {X} h n places order first second =
    let all = range_with_len 0 n in
    found_in_order link_total link_exact places (grid all all) h order (grid_sorted all all (range_sorted 0 n) (range_sorted 0 n)) none
    ∙ found_by_row (λ p. if has link_cmp places p then h p else None) all all
  where
    none : (k : ℕ × ℕ) → has link_cmp (grid (range_with_len 0 n) (range_with_len 0 n)) k ≡ false → h k ≡ None
    none k absent = elim (cases_lt k.0 n) [
      | inr le ↦ first k.0 k.1 le
      | inl one ↦ elim (cases_lt k.1 n) [
        | inr le ↦ second k.0 k.1 le
        | inl other ↦ absurd (true_false (sym (grid_has k.0 k.1 (range_with_len 0 n) (range_with_len 0 n) (range_has 0 n k.0 (omega arith) (omega arith)) (range_has 0 n k.1 (omega arith) (omega arith))) ∙ absent))
      ]
    ]

-- and at numbers in order likewise
pub found_at_numbers : {X : Type 0} (h : ℕ → Option X) (n : ℕ) (places : List ℕ) → IsStrictlySortedBy nat_cmp places
    → ((a : ℕ) → n ≤ a → h a ≡ None)
    → filter_map h places ≡ filter_map (λ a. if has nat_cmp places a then h a else None) (range_with_len 0 n)
found_at_numbers {X} h n places order past =
    found_in_order nat_cmp_total exact_unsigned places (range_with_len 0 n) h order (range_sorted 0 n) none
  where
    none : (k : ℕ) → has nat_cmp (range_with_len 0 n) k ≡ false → h k ≡ None
    none k absent = elim (cases_lt k n) [
      | inr le ↦ past k le
      | inl within ↦ absurd (true_false (sym (range_has 0 n k (omega arith) (omega arith)) ∙ absent))
    ]

-- a list has what is left of it once repeats next to one another are taken out

both : (a b : Bool) → (a ≡ true → b ≡ true) → (b ≡ true → a ≡ true) → a ≡ b
both true b there back = sym (there refl)
both false true there back = back refl
both false false there back = refl

pub any_once : {X : Type 0} {E : X → X → Bool} (e : IsEquivalence E) (x : X) (xs : List X) → list_any (E x) (dedup E xs) ≡ list_any (E x) xs
any_once {X} {E} e x xs = both (list_any (E x) (dedup E xs)) (list_any (E x) xs) there back
  where
    there : list_any (E x) (dedup E xs) ≡ true → list_any (E x) xs ≡ true
    there any =
        let (k, y, low, is, passes) = Any-from_list_any (E x) (dedup E xs) any in
        let (j, below, at) = Contains-from_dedup E xs y (k, low, is) in
        list_any-from_Any (E x) xs (j, y, below, at, passes)

    back : list_any (E x) xs ≡ true → list_any (E x) (dedup E xs) ≡ true
    back any =
        let (k, y, low, is, passes) = Any-from_list_any (E x) xs any in
        let (j, z, below, at, same) = Any-dedup e xs y (k, low, is) in
        list_any-from_Any (E x) (dedup E xs) (j, z, below, at, e.congr x y z passes ∙ same)
