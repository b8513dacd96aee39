-- What is put in the order of its keys keeps the places of each key.
use Rattle.std.proofs.Common.{◌≡◌, ℕ, ◌+◌, Bool, true, false, cond, List, [], ◌∷◌, ◌++◌, length, map, refl, sym, ap, subst, ◌∙◌, option_map, arith}
use Rattle.std.proofs.lemmas.List.Elements.{filter_map-append}
use Rattle.std.specs.Prelude.{Option, Some, None, filter_map}
use Rattle.std.specs.List.{filter, enumerate_from, cons_option}
use Rattle.std.specs.Option.{option_map_or}
use Rattle.std.specs.List.Sorted.{IsSortedBy, IsStableBy}
use Rattle.std.specs.Ordering.{is_eq, is_lt, ordering_reverse}
use Rattle.std.specs.declared.cmp.Ordering.{Ordering}
use Rattle.std.specs.declared.cmp.Ordering.TheVariants.{Less, Equal, Greater}
use Rattle.std.proofs.lemmas.List.MinMax.{ranks_by}
use Rattle.jh_edn.specs.Edn.{Edn}
use Rattle.jh_edn.specs.Order.{edn_cmp, in_order, is_below, put_in_order}
use Rattle.jh_edn.specs.View.{view}
use Rattle.jh_edn.proofs.CitedLemmas.{edn_total}
use Rattle.jh_edn.proofs.CitedLemmas.{map_in_order, sorted_is}
use Rattle.jh_ops.specs.Operation.{Operation}
use Rattle.jh_check.specs.Distinct.{Ascends, is_same, distinct_values}
use Rattle.jh_check.proofs.DistinctLemmas.{same_along, sorted_ascends}
use Rattle.jh_independent.specs.Keys.{has_key, client_key, places_of}
use Rattle.jh_independent.specs.SplitInside.{groups_in, groups_of, is_keyed_below, keys_with_places, keys_of_keyed, places_in, view_keyed, view_key, key_with_place}
use Rattle.jh_independent.specs.declared.split.Keyed.{Keyed}

-- ---- a stable sort

abbrev pub held_below : Keyed → Keyed → Bool
held_below a b = is_keyed_below (view_key a) (view_key b)

pub sorted_keyed : (ks ls : List Keyed) → IsSortedBy held_below ls → IsStableBy held_below ks ls → view_keyed ls ≡ in_order is_keyed_below (view_keyed ks)
sorted_keyed ks ls up still =
    ap view_keyed (sorted_is held_below (ranks_by edn_total (λ (k : Keyed). view k.key)) ks ls up still)
    ∙ map_in_order view_key is_keyed_below ks

pub keys_in_order : (xs : List (Edn × ℕ)) → keys_of_keyed (in_order is_keyed_below xs) ≡ in_order is_below (keys_of_keyed xs)
keys_in_order xs = map_in_order (λ (one : Edn × ℕ). one.0) is_below xs

pub keys_ascend : (xs : List (Edn × ℕ)) (ys : List (Edn × ℕ)) → ys ≡ in_order is_keyed_below xs → Ascends (keys_of_keyed ys)
keys_ascend xs ys e = subst Ascends (sym (ap keys_of_keyed e ∙ keys_in_order xs)) (sorted_ascends (keys_of_keyed xs))

-- ---- each key's own stay as they stood

-- what is below a value of this key has another key
other_below : (k x y : Edn) → is_same k x ≡ true → is_below y x ≡ true → is_same k y ≡ false
other_below k x y same below = same_along k x y same ∙ ap is_eq (edn_total.antisymm x y) ∙ reversed (edn_cmp y x) below where
  reversed : (o : Ordering) → is_lt o ≡ true → is_eq (ordering_reverse o) ≡ false
  reversed Less h = refl
  reversed Equal h = absurd cc
  reversed Greater h = absurd cc

abbrev of_key : Edn → Edn × ℕ → Bool
of_key k one = is_same k one.0

put_other : (k : Edn) (x : Edn × ℕ) (ys : List (Edn × ℕ)) → is_same k x.0 ≡ false → filter (of_key k) (put_in_order is_keyed_below x ys) ≡ filter (of_key k) ys
put_other k x [] h = rw h refl
put_other k x (y ∷ ys) h =
    elim (is_keyed_below y x) as (λ b. filter (of_key k) (cond b (y ∷ put_in_order is_keyed_below x ys) (x ∷ y ∷ ys)) ≡ filter (of_key k) (y ∷ ys)) [
      | true ↦ ap (λ w. cond (is_same k y.0) (y ∷ w) w) (put_other k x ys h)
      | false ↦ rw h refl
    ]

put_same : (k : Edn) (x : Edn × ℕ) (ys : List (Edn × ℕ)) → is_same k x.0 ≡ true → filter (of_key k) (put_in_order is_keyed_below x ys) ≡ x ∷ filter (of_key k) ys
put_same k x [] h = rw h refl
put_same k x (y ∷ ys) h =
    elim (is_keyed_below y x) as (λ b. is_keyed_below y x ≡ b → filter (of_key k) (cond b (y ∷ put_in_order is_keyed_below x ys) (x ∷ y ∷ ys)) ≡ x ∷ filter (of_key k) (y ∷ ys)) [
      | true ↦ λ e.
          let other : is_same k y.0 ≡ false = other_below k x.0 y.0 h e in
          rw other (put_same k x ys h)
      | false ↦ λ e. rw h refl
    ] refl

same_in_order : (k : Edn) (xs : List (Edn × ℕ)) → filter (of_key k) (in_order is_keyed_below xs) ≡ filter (of_key k) xs
same_in_order k [] = refl
same_in_order k (x ∷ xs) =
    elim (is_same k x.0) as (λ b. is_same k x.0 ≡ b → filter (of_key k) (put_in_order is_keyed_below x (in_order is_keyed_below xs)) ≡ cond b (x ∷ filter (of_key k) xs) (filter (of_key k) xs)) [
      | true ↦ λ e. put_same k x (in_order is_keyed_below xs) e ∙ ap (λ w. x ∷ w) (same_in_order k xs)
      | false ↦ λ e. put_other k x (in_order is_keyed_below xs) e ∙ same_in_order k xs
    ] refl

-- ---- those of a history

numbered : (n : ℕ) (xs : List Operation) (x : Operation) → enumerate_from n (xs ++ x ∷ []) ≡ enumerate_from n xs ++ (n + length xs, x) ∷ []
numbered n [] x = let e : n ≡ n + 0 = omega arith in λ i. (e i, x) ∷ []
numbered n (y ∷ ys) x =
    let e : n + 1 + length ys ≡ n + length (y ∷ ys) = omega arith in
    ap (λ w. (n, y) ∷ w) (numbered (n + 1) ys x ∙ ap (λ m. enumerate_from (n + 1) ys ++ (m, x) ∷ []) e)

-- an operation more
pub keyed_more : (xs : List Operation) (x : Operation) → keys_with_places (xs ++ x ∷ []) ≡ keys_with_places xs ++ filter_map key_with_place ((length xs, x) ∷ [])
keyed_more xs x =
    let n : 0 + length xs ≡ length xs = omega arith in
    ap (filter_map key_with_place) (numbered 0 xs x ∙ ap (λ m. enumerate_from 0 xs ++ (m, x) ∷ []) n)
    ∙ filter_map-append key_with_place (enumerate_from 0 xs) ((length xs, x) ∷ [])

abbrev cons_key : ℕ → Option Edn → List (Edn × ℕ) → List (Edn × ℕ)
cons_key place k rest = cons_option (option_map (λ key. (key, place)) k) rest

keys_are_of : (n : ℕ) (ops : List Operation) → keys_of_keyed (filter_map key_with_place (enumerate_from n ops)) ≡ filter_map client_key ops
keys_are_of n [] = refl
keys_are_of n (op ∷ ops) =
    elim (client_key op) as (λ k. keys_of_keyed (cons_key n k (filter_map key_with_place (enumerate_from (n + 1) ops))) ≡ cons_option k (filter_map client_key ops)) [
      | None ↦ keys_are_of (n + 1) ops
      | Some key ↦ ap (λ w. key ∷ w) (keys_are_of (n + 1) ops)
    ]

places_are : (k : Edn) (n : ℕ) (ops : List Operation)
    → places_in k (filter_map key_with_place (enumerate_from n ops)) ≡ map (λ (placed : ℕ × Operation). placed.0) (filter (λ (placed : ℕ × Operation). has_key k placed.1) (enumerate_from n ops))
places_are k n [] = refl
places_are k n (op ∷ ops) =
    let rest : List (Edn × ℕ) = filter_map key_with_place (enumerate_from (n + 1) ops) in
    let those : List (ℕ × Operation) = filter (λ (placed : ℕ × Operation). has_key k placed.1) (enumerate_from (n + 1) ops) in
    elim (client_key op) as (λ o. places_in k (cons_option (option_map (λ key. (key, n)) o) rest) ≡ map (λ (placed : ℕ × Operation). placed.0) (cond (option_map_or (is_same k) o false) ((n, op) ∷ those) those)) [
      | None ↦ places_are k (n + 1) ops
      | Some key ↦
          elim (is_same k key) as (λ b. map (λ (one : Edn × ℕ). one.1) (cond b ((key, n) ∷ filter (of_key k) rest) (filter (of_key k) rest)) ≡ map (λ (placed : ℕ × Operation). placed.0) (cond b ((n, op) ∷ those) those)) [
            | true ↦ ap (λ w. n ∷ w) (places_are k (n + 1) ops)
            | false ↦ places_are k (n + 1) ops
          ]
    ]

places_sorted : (k : Edn) (ops : List Operation) → places_in k (in_order is_keyed_below (keys_with_places ops)) ≡ places_of k ops
places_sorted k ops = ap (map (λ (one : Edn × ℕ). one.1)) (same_in_order k (keys_with_places ops)) ∙ places_are k 0 ops

pub groups_sorted : (ops : List Operation) (ys : List (Edn × ℕ)) → ys ≡ in_order is_keyed_below (keys_with_places ops) → groups_in ys ≡ groups_of ops
groups_sorted ops ys e =
    ap groups_in e
    ∙ (λ i. map (λ key. (key, places_sorted key ops i)) (distinct_values (keys_of_keyed (in_order is_keyed_below (keys_with_places ops)))))
    ∙ ap (λ keys. map (λ key. (key, places_of key ops)) (distinct_values keys)) (keys_in_order (keys_with_places ops) ∙ ap (in_order is_below) (keys_are_of 0 ops))
