-- The links of each named fault are those of its grudge.
use Rattle.std.specs.Prelude.{◌&&◌, ◌||◌, ◌==◌, not, filter, slice_get, nat_lt, Option, Some, None}
use Rattle.std.proofs.Common.{get_or, ◌≡◌, ℕ, zero, suc, ◌+◌, ◌-◌, ◌/◌, ◌%◌, ◌<◌, Bool, true, false, List, [], ◌∷◌, length, refl, sym, ap, ◌∙◌, ◌⊎◌, inl, inr, arith}
use Rattle.std.specs.List.{All, Contains, list_any, range_with_len}
use Rattle.std.proofs.lemmas.Bool.{both_ways, and_parts, ltb-true, ltb-false, lt-ltb, le-ltb, eqb-true, eq-eqb, ne_eqb}
use Rattle.std.proofs.lemmas.List.FromFn.{length-range_with_len}
use Rattle.std.proofs.lemmas.List.Elements.{All-contains, Contains-get_or}
use Rattle.std.specs.Prelude.{IsPermutation, IfOk, MatchResult, Result, Ok, Err}
use Rattle.std.proofs.lemmas.Bool.Decides.{Decides-eqb, eqb_tells}
use Rattle.std.proofs.lemmas.List.FromFn.{get_or-range_with_len}
use Rattle.std.proofs.lemmas.List.Sorted.{All-permutation, length_permutation}
use Rattle.std.proofs.lemmas.Map.Keys.{IsDistinct-IsPermutation}
use Rattle.std.proofs.lemmas.Map.Made.{AllPairs-from_IsDistinct, IsDistinct-from_AllPairs}
use Rattle.std.proofs.lemmas.Option.{slice_get_within, get_or_from_slice_get}
use Rattle.jh_grudge.specs.Lists.{AreDistinct, first_half, second_half, split_of}
use Rattle.jh_grudge.specs.Grudges.{CutsExactly, IsAscending, JoinsTwoOf, CompleteDrops, BridgeDrops, RingDrops, nodes_beyond_bridge}
use Rattle.jh_env.specs.Names.{node_places}
use Rattle.jh_step_texts.specs.NamedFaults.{AreLinksAmong, links_that, crosses, crosses_halves, touches, crosses_bridge, leaves_majority, is_at, is_option_of}
use Rattle.jh_step_texts.proofs.LinkLemmas.{all_from, links_are, contains_none, contains_cons, kept, keeps, any_from, some_of_any, in_range, range_has, range_take, range_drop, in_links, links_have}

first_is : (n : ℕ) → first_half (node_places n) ≡ range_with_len 0 (n / 2)
first_is n = rw (length-range_with_len 0 n) (range_take (n / 2) 0 n (omega arith))

second_is : (n : ℕ) → second_half (node_places n) ≡ range_with_len (n / 2) (n - n / 2)
second_is n = let none : 0 + n / 2 ≡ n / 2 = omega arith in rw (length-range_with_len 0 n) (range_drop (n / 2) 0 n ∙ ap (λ s. range_with_len s (n - n / 2)) none)

beyond_is : (n : ℕ) → nodes_beyond_bridge (node_places n) ≡ range_with_len (n / 2 + 1) (n - (n / 2 + 1))
beyond_is n = let none : 0 + (n / 2 + 1) ≡ n / 2 + 1 = omega arith in rw (length-range_with_len 0 n) (range_drop (n / 2 + 1) 0 n ∙ ap (λ s. range_with_len s (n - (n / 2 + 1))) none)

-- just one end of a link is such
one_end : (is : ℕ → Bool) (a b : ℕ) → crosses is (a, b) ≡ true → ((is a ≡ true) × (is b ≡ false)) ⊎ ((is a ≡ false) × (is b ≡ true))
one_end is a b hit = go (is a) (is b) refl refl hit where
  go : (x y : Bool) → is a ≡ x → is b ≡ y → ((x && not y) || (not x && y)) ≡ true → ((is a ≡ true) × (is b ≡ false)) ⊎ ((is a ≡ false) × (is b ≡ true))
  go true true p q hit = absurd cc
  go true false p q hit = inl (p, q)
  go false true p q hit = inr (p, q)
  go false false p q hit = absurd cc

from_end : (is : ℕ → Bool) (a b : ℕ) → is a ≡ true → is b ≡ false → crosses is (a, b) ≡ true
from_end is a b p q = rw (p, q) refl

to_end : (is : ℕ → Bool) (a b : ℕ) → is a ≡ false → is b ≡ true → crosses is (a, b) ≡ true
to_end is a b p q = rw (p, q) refl

-- who drops whom among two components
two_parts : (xs ys : List ℕ) (dst src : ℕ) → CompleteDrops (xs ∷ ys ∷ []) dst src → (Contains xs dst × Contains ys src) ⊎ (Contains ys dst × Contains xs src)
two_parts xs ys dst src (zero, zero, apart, a, b) = absurd (apart refl)
two_parts xs ys dst src (zero, suc zero, apart, a, b) = inl (a, b)
two_parts xs ys dst src (zero, suc (suc j), apart, a, b) = absurd (contains_none src b)
two_parts xs ys dst src (suc zero, zero, apart, a, b) = inr (a, b)
two_parts xs ys dst src (suc zero, suc zero, apart, a, b) = absurd (apart refl)
two_parts xs ys dst src (suc zero, suc (suc j), apart, a, b) = absurd (contains_none src b)
two_parts xs ys dst src (suc (suc i), j, apart, a, b) = absurd (contains_none dst a)

first_drops : (xs ys : List ℕ) (dst src : ℕ) → Contains xs dst → Contains ys src → CompleteDrops (xs ∷ ys ∷ []) dst src
first_drops xs ys dst src a b = (0, 1, (λ e. omega (arith, e)), a, b)

second_drops : (xs ys : List ℕ) (dst src : ℕ) → Contains ys dst → Contains xs src → CompleteDrops (xs ∷ ys ∷ []) dst src
second_drops xs ys dst src a b = (1, 0, (λ e. omega (arith, e)), a, b)

pub halves_exact : (n : ℕ) → CutsExactly (CompleteDrops (first_half (node_places n) ∷ second_half (node_places n) ∷ [])) (links_that (crosses_halves n) n)
halves_exact n dst src = rw (first_is n, second_is n) (
  (λ has. let ends = in_links (crosses_halves n) n (src, dst) has in
      elim (one_end (λ a. nat_lt a (n / 2)) src dst ends.2) [
        | inl (low, high) ↦ second_drops (range_with_len 0 (n / 2)) (range_with_len (n / 2) (n - n / 2)) dst src
            (range_has (n / 2) (n - n / 2) dst (ltb-false dst (n / 2) high) (omega (arith, ends.1)))
            (range_has 0 (n / 2) src (omega arith) (omega (arith, ltb-true src (n / 2) low)))
        | inr (high, low) ↦ first_drops (range_with_len 0 (n / 2)) (range_with_len (n / 2) (n - n / 2)) dst src
            (range_has 0 (n / 2) dst (omega arith) (omega (arith, ltb-true dst (n / 2) low)))
            (range_has (n / 2) (n - n / 2) src (ltb-false src (n / 2) high) (omega (arith, ends.0)))
      ]),
  (λ drops. elim (two_parts (range_with_len 0 (n / 2)) (range_with_len (n / 2) (n - n / 2)) dst src drops) [
    | inl (a, b) ↦ (let to = in_range 0 (n / 2) dst a in let from = in_range (n / 2) (n - n / 2) src b in
        links_have (crosses_halves n) n src dst (omega (arith, from.0, from.1)) (omega (arith, to.1))
        (to_end (λ a. nat_lt a (n / 2)) src dst (le-ltb src (n / 2) from.0) (lt-ltb dst (n / 2) (omega (arith, to.1)))))
    | inr (a, b) ↦ (let to = in_range (n / 2) (n - n / 2) dst a in let from = in_range 0 (n / 2) src b in
        links_have (crosses_halves n) n src dst (omega (arith, from.1)) (omega (arith, to.0, to.1))
        (from_end (λ a. nat_lt a (n / 2)) src dst (lt-ltb src (n / 2) (omega (arith, from.1))) (le-ltb dst (n / 2) to.0)))
  ]),
)

alone : (loner a : ℕ) → Contains (loner ∷ []) a → loner ≡ a
alone loner a has = elim (contains_cons loner [] a has) [ inl same ↦ same | inr none ↦ absurd (contains_none a none) ]

other_is : (loner a : ℕ) → not (a == loner) ≡ true → (a == loner) ≡ false
other_is loner a e = go (a == loner) e where
  go : (b : Bool) → not b ≡ true → b ≡ false
  go true e = absurd cc
  go false e = refl

pub split_exact : (n loner : ℕ) → loner < n → CutsExactly (CompleteDrops (split_of loner (node_places n))) (links_that (touches loner) n)
split_exact n loner low dst src = (
  (λ has. let ends = in_links (touches loner) n (src, dst) has in
      elim (one_end (λ a. a == loner) src dst ends.2) [
        | inl (is, other) ↦ second_drops (loner ∷ []) (filter (λ node. not (node == loner)) (node_places n)) dst src
            (keeps (λ node. not (node == loner)) (node_places n) dst (range_has 0 n dst (omega arith) (omega (arith, ends.1))) (rw other refl))
            (0, omega arith, sym (eqb-true src loner is))
        | inr (other, is) ↦ first_drops (loner ∷ []) (filter (λ node. not (node == loner)) (node_places n)) dst src
            (0, omega arith, sym (eqb-true dst loner is))
            (keeps (λ node. not (node == loner)) (node_places n) src (range_has 0 n src (omega arith) (omega (arith, ends.0))) (rw other refl))
      ]),
  (λ drops. elim (two_parts (loner ∷ []) (filter (λ node. not (node == loner)) (node_places n)) dst src drops) [
    | inl (a, b) ↦ (let same : loner ≡ dst = alone loner dst a in let found = kept (λ node. not (node == loner)) (node_places n) src b in let below = in_range 0 n src found.0 in
        links_have (touches loner) n src dst (omega (arith, below.1)) (omega (arith, same))
        (to_end (λ a. a == loner) src dst (other_is loner src found.1) (eq-eqb dst loner (sym same))))
    | inr (a, b) ↦ (let same : loner ≡ src = alone loner src b in let found = kept (λ node. not (node == loner)) (node_places n) dst a in let below = in_range 0 n dst found.0 in
        links_have (touches loner) n src dst (omega (arith, same)) (omega (arith, below.1))
        (from_end (λ a. a == loner) src dst (eq-eqb src loner (sym same)) (other_is loner dst found.1)))
  ]),
)

-- the two sides of a bridge
sides : (h a b : ℕ) → ((nat_lt a h && nat_lt h b) || (nat_lt h a && nat_lt b h)) ≡ true → ((a < h) × (h < b)) ⊎ ((h < a) × (b < h))
sides h a b hit = go (nat_lt a h && nat_lt h b) refl hit where
  go : (x : Bool) → (nat_lt a h && nat_lt h b) ≡ x → (x || (nat_lt h a && nat_lt b h)) ≡ true → ((a < h) × (h < b)) ⊎ ((h < a) × (b < h))
  go true is hit = let both = and_parts (nat_lt a h) (nat_lt h b) is in inl (ltb-true a h both.0, ltb-true h b both.1)
  go false is hit = let both = and_parts (nat_lt h a) (nat_lt b h) hit in inr (ltb-true h a both.0, ltb-true b h both.1)

one_side : (h a b : ℕ) → a < h → h < b → ((nat_lt a h && nat_lt h b) || (nat_lt h a && nat_lt b h)) ≡ true
one_side h a b low high = rw (lt-ltb a h low, lt-ltb h b high) refl

other_side : (h a b : ℕ) → h < a → b < h → ((nat_lt a h && nat_lt h b) || (nat_lt h a && nat_lt b h)) ≡ true
other_side h a b high low = rw (le-ltb a h (omega arith), lt-ltb h a high, lt-ltb b h low) refl

pub bridge_exact : (n : ℕ) → CutsExactly (BridgeDrops (node_places n)) (links_that (crosses_bridge n) n)
bridge_exact n dst src = rw (first_is n, beyond_is n) (
  (λ has. let ends = in_links (crosses_bridge n) n (src, dst) has in
      elim (sides (n / 2) src dst ends.2) [
        | inl (low, high) ↦ inr (range_has (n / 2 + 1) (n - (n / 2 + 1)) dst (omega (arith, high)) (omega (arith, ends.1, high)), range_has 0 (n / 2) src (omega arith) (omega (arith, low)))
        | inr (high, low) ↦ inl (range_has 0 (n / 2) dst (omega arith) (omega (arith, low)), range_has (n / 2 + 1) (n - (n / 2 + 1)) src (omega (arith, high)) (omega (arith, ends.0, high)))
      ]),
  (λ drops. elim drops [
    | inl (a, b) ↦ (let to = in_range 0 (n / 2) dst a in let from = in_range (n / 2 + 1) (n - (n / 2 + 1)) src b in
        links_have (crosses_bridge n) n src dst (omega (arith, from.0, from.1)) (omega (arith, to.1)) (other_side (n / 2) src dst (omega (arith, from.0)) (omega (arith, to.1))))
    | inr (a, b) ↦ (let to = in_range (n / 2 + 1) (n - (n / 2 + 1)) dst a in let from = in_range 0 (n / 2) src b in
        links_have (crosses_bridge n) n src dst (omega (arith, from.1)) (omega (arith, to.0, to.1)) (one_side (n / 2) src dst (omega (arith, from.1)) (omega (arith, to.0))))
  ]),
)

at_place : (nodes : List ℕ) (place node : ℕ) → is_at nodes place node ≡ true → slice_get nodes place ≡ Some node
at_place nodes place node hit = go (slice_get nodes place) hit where
  go : (o : Option ℕ) → is_option_of node o ≡ true → o ≡ Some node
  go None hit = absurd cc
  go (Some b) hit = ap Some (eqb-true b node hit)

place_at : (nodes : List ℕ) (place node : ℕ) → slice_get nodes place ≡ Some node → is_at nodes place node ≡ true
place_at nodes place node at = rw at (eq-eqb node node refl)

stands : (nodes : List ℕ) (i a : ℕ) → slice_get nodes i ≡ Some a → Contains nodes a
stands nodes i a at = (i, slice_get_within nodes i a at, get_or_from_slice_get nodes i a a at)

pub ring_exact : (order : List ℕ) (n : ℕ) → length order ≡ n → All (λ a. a < n) order → CutsExactly (RingDrops order) (links_that (leaves_majority order) n)
ring_exact order n long below dst src = (
  (λ has. let ends = in_links (leaves_majority order) n (src, dst) has in
      let m = length order in
      let seen = some_of_any (λ i. is_at order i dst && list_any (λ k. is_at order ((i + k) % m) src) (range_with_len (m / 2 + 1) (m - (m / 2 + 1)))) (range_with_len 0 m) ends.2 in
      let both = and_parts (is_at order seen.0 dst) (list_any (λ k. is_at order ((seen.0 + k) % m) src) (range_with_len (m / 2 + 1) (m - (m / 2 + 1)))) seen.2 in
      let dropped = some_of_any (λ k. is_at order ((seen.0 + k) % m) src) (range_with_len (m / 2 + 1) (m - (m / 2 + 1))) both.1 in
      let steps = in_range (m / 2 + 1) (m - (m / 2 + 1)) dropped.0 dropped.1 in
      (seen.0, dropped.0, at_place order seen.0 dst both.0, steps.0, omega (arith, steps.0, steps.1), at_place order ((seen.0 + dropped.0) % m) src dropped.2)),
  (λ drops. let (i, k, to, low, high, from) = drops in
      let m = length order in
      links_have (leaves_majority order) n src dst
      (All-contains (λ a. a < n) order src below (stands order ((i + k) % m) src from))
      (All-contains (λ a. a < n) order dst below (stands order i dst to))
      (any_from (λ i. is_at order i dst && list_any (λ k. is_at order ((i + k) % m) src) (range_with_len (m / 2 + 1) (m - (m / 2 + 1)))) (range_with_len 0 m) i
      (range_has 0 m i (omega arith) (let within : i < m = slice_get_within order i dst to in omega arith))
      (rw (place_at order i dst to)
      (any_from (λ k. is_at order ((i + k) % m) src) (range_with_len (m / 2 + 1) (m - (m / 2 + 1))) k (range_has (m / 2 + 1) (m - (m / 2 + 1)) k low (omega arith))
      (place_at order ((i + k) % m) src from))))),
)

-- the places are distinct, in whatever order
pub places_apart : (n : ℕ) → AreDistinct (node_places n)
places_apart n i j d less below =
    let long = length-range_with_len 0 n in
    let here : get_or (node_places n) i d ≡ 0 + i = get_or-range_with_len 0 n i d (omega arith) in
    let there : get_or (node_places n) j d ≡ 0 + j = get_or-range_with_len 0 n j d (omega arith) in
    λ same. omega (arith, here, there, same)

flips : (a b : ℕ) → (a == b) ≡ (b == a)
flips a b = elim (eqb_tells a b) [ inl (hit, same) ↦ hit ∙ sym (eq-eqb b a (sym same)) | inr (miss, other) ↦ miss ∙ sym (ne_eqb b a (λ same. other (sym same))) ]

pub order_distinct : (n : ℕ) (order : List ℕ) → IsPermutation (node_places n) order → AreDistinct order
order_distinct n order shuffled = AllPairs-from_IsDistinct (λ a b. Decides-eqb a b) order (IsDistinct-IsPermutation (λ a b. a == b) flips (node_places n) order shuffled (IsDistinct-from_AllPairs (λ a b. Decides-eqb a b) (node_places n) (places_apart n)))

pub places_below : (n : ℕ) → All (λ a. a < n) (node_places n)
places_below n = all_from (λ a. a < n) (node_places n) (λ a has. let found = in_range 0 n a has in omega (arith, found.1))

pub order_below : (n : ℕ) (order : List ℕ) → IsPermutation (node_places n) order → All (λ a. a < n) order
order_below n order shuffled = All-permutation (λ a. a < n) (node_places n) order shuffled (places_below n)

pub order_long : (n : ℕ) (order : List ℕ) → IsPermutation (node_places n) order → length order ≡ n
order_long n order shuffled = length_permutation (node_places n) order shuffled ∙ length-range_with_len 0 n

-- what is answered where a grudge is made: the links that are such, and no others
pub made_of : {E : Type 0} (answer : Result (List (ℕ × ℕ)) E) (F : E → Type 0) (Drops : ℕ → ℕ → Type 0) (is : (ℕ × ℕ) → Bool) (n : ℕ)
    → CutsExactly Drops (links_that is n) → MatchResult answer (CutsExactly Drops) F → IfOk answer IsAscending → IfOk answer (λ links. links ≡ links_that is n)
made_of (Ok links) F Drops is n exact cuts ascends = links_are Drops is n links cuts ascends exact
made_of (Err error) F Drops is n exact cuts ascends = ascends

joins_among : (nodes : List ℕ) (n : ℕ) → All (λ a. a < n) nodes → (links : List (ℕ × ℕ)) → All (JoinsTwoOf nodes) links → AreLinksAmong n links
joins_among nodes n below links joins k d within =
    let join = joins k d within in (All-contains (λ a. a < n) nodes (get_or links k d).0 below join.from, All-contains (λ a. a < n) nodes (get_or links k d).1 below join.to, join.apart)

pub made_among : {E : Type 0} (answer : Result (List (ℕ × ℕ)) E) (nodes : List ℕ) (n : ℕ) → All (λ a. a < n) nodes → IfOk answer (All (JoinsTwoOf nodes)) → IfOk answer (AreLinksAmong n)
made_among (Ok links) nodes n below joins = joins_among nodes n below links joins
made_among (Err error) nodes n below joins = joins

crossing_among : (is : ℕ → Bool) (n : ℕ) → AreLinksAmong n (links_that (crosses is) n)
crossing_among is n k d within =
    let link = get_or (links_that (crosses is) n) k d in
    let ends = in_links (crosses is) n link (Contains-get_or (links_that (crosses is) n) k d within) in (
      ends.0,
      ends.1,
      λ same. elim (one_end is link.0 link.1 ends.2) [
        | inl (hit, miss) ↦ both_ways (is link.1) miss (ap is (sym same) ∙ hit)
        | inr (miss, hit) ↦ both_ways (is link.0) miss (ap is same ∙ hit)
      ],
    )

pub made_crossing : {E : Type 0} (answer : Result (List (ℕ × ℕ)) E) (is : ℕ → Bool) (n : ℕ) → IfOk answer (λ links. links ≡ links_that (crosses is) n) → IfOk answer (AreLinksAmong n)
made_crossing (Ok links) is n made = rw made (crossing_among is n)
made_crossing (Err error) is n made = made
