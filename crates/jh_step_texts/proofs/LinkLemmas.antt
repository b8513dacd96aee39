-- Lists of links: those between all nodes that pass a test, ascending; and one ascending list is known by its links.
use Rattle.std.specs.Prelude.{cond, ◌||◌, map, filter, flat_map}
use Rattle.std.proofs.Common.{◌≡◌, ℕ, zero, suc, ◌+◌, ◌-◌, ◌<◌, ◌≤◌, Bool, true, false, List, [], ◌∷◌, ◌++◌, get_or, take, drop, refl, sym, ap, subst, ◌∙◌, ◌⊎◌, inl, inr, arith}
use Rattle.std.specs.List.{All, AllPairs, Contains, list_any, range_with_len}
use Rattle.std.proofs.Math.Nat.{add-zero, sub-zero}
use Rattle.std.proofs.lemmas.Bool.{cases_eq, both_ways}
use Rattle.std.proofs.lemmas.List.Elements.{Contains-get_or, Contains-append_left, Contains-append_right, Contains-append_cases, All-contains}
use Rattle.std.proofs.lemmas.List.Kept.{AllPairs-cons, AllPairs-filter}
use Rattle.jh_grudge.specs.Grudges.{CutsExactly, IsBefore, IsAscending}
use Rattle.jh_step_texts.specs.NamedFaults.{all_pairs, links_that}

module _ {X : Type 0} where
  pub contains_head : (x : X) (xs : List X) → Contains (x ∷ xs) x
  contains_head x xs = (0, omega arith, refl)

  pub contains_here : (x : X) (xs : List X) (a : X) → x ≡ a → Contains (x ∷ xs) a
  contains_here x xs a same = (0, omega arith, same)

  pub contains_tail : (x : X) (xs : List X) (a : X) → Contains xs a → Contains (x ∷ xs) a
  contains_tail x xs a (k, below, is) = (suc k, omega arith, is)

  pub contains_cons : (x : X) (xs : List X) (a : X) → Contains (x ∷ xs) a → (x ≡ a) ⊎ Contains xs a
  contains_cons x xs a (zero, below, is) = inl is
  contains_cons x xs a (suc k, below, is) = inr (k, omega arith, is)

  pub contains_none : (a : X) → Contains [] a → ⊥
  contains_none a (k, below, is) = omega arith

  pub all_from : (P : X → Type 0) (xs : List X) → ((x : X) → Contains xs x → P x) → All P xs
  all_from P xs each k d below = each (get_or xs k d) (Contains-get_or xs k d below)

  pub all_pairs_tail : (R : X → X → Type 0) (x : X) (xs : List X) → AllPairs R (x ∷ xs) → AllPairs R xs
  all_pairs_tail R x xs all i j d less below = all (suc i) (suc j) d (omega arith) (omega arith)

  pub all_pairs_head : (R : X → X → Type 0) (x : X) (xs : List X) → AllPairs R (x ∷ xs) → All (R x) xs
  all_pairs_head R x xs all k d below = all 0 (suc k) d (omega arith) (omega arith)

  -- what a filter keeps
  pub kept : (p : X → Bool) (xs : List X) (a : X) → Contains (filter p xs) a → Contains xs a × (p a ≡ true)
  kept p [] a has = absurd (contains_none a has)
  kept p (x ∷ xs) a has =
      elim (p x) as (λ b. p x ≡ b → Contains (cond b (x ∷ filter p xs) (filter p xs)) a → Contains (x ∷ xs) a × (p a ≡ true)) [
        | true ↦ λ passes has. elim (contains_cons x (filter p xs) a has) [
          | inl same ↦ (rw (← same) (contains_head x xs), rw (← same) passes)
          | inr later ↦ (let found = kept p xs a later in (contains_tail x xs a found.0, found.1))
        ]
        | false ↦ λ fails has. (let found = kept p xs a has in (contains_tail x xs a found.0, found.1))
      ] refl has

  pub keeps : (p : X → Bool) (xs : List X) (a : X) → Contains xs a → p a ≡ true → Contains (filter p xs) a
  keeps p [] a has passes = absurd (contains_none a has)
  keeps p (x ∷ xs) a has passes =
      elim (p x) as (λ b. p x ≡ b → Contains (cond b (x ∷ filter p xs) (filter p xs)) a) [
        | true ↦ λ is. elim (contains_cons x xs a has) [
          | inl same ↦ contains_here x (filter p xs) a same
          | inr later ↦ contains_tail x (filter p xs) a (keeps p xs a later passes)
        ]
        | false ↦ λ is. elim (contains_cons x xs a has) [
          | inl same ↦ absurd (both_ways (p x) is (ap p same ∙ passes))
          | inr later ↦ keeps p xs a later passes
        ]
      ] refl

  -- a test that holds somewhere in a list
  pub any_from : (p : X → Bool) (xs : List X) (a : X) → Contains xs a → p a ≡ true → list_any p xs ≡ true
  any_from p [] a has passes = absurd (contains_none a has)
  any_from p (x ∷ xs) a has passes =
      elim (contains_cons x xs a has) [
        | inl same ↦ rw (same, passes) refl
        | inr later ↦ rw (any_from p xs a later passes) elim (p x) as (λ b. b || true ≡ true) [ true ↦ refl | false ↦ refl ]
      ]

  pub some_of_any : (p : X → Bool) (xs : List X) → list_any p xs ≡ true → (a : X) × Contains xs a × (p a ≡ true)
  some_of_any p [] any = absurd cc
  some_of_any p (x ∷ xs) any =
      elim (p x) as (λ b. p x ≡ b → b || list_any p xs ≡ true → (a : X) × Contains (x ∷ xs) a × (p a ≡ true)) [
        | true ↦ λ is any. (x, contains_head x xs, is)
        | false ↦ λ is any. (let found = some_of_any p xs any in (found.0, contains_tail x xs found.0 found.1, found.2))
      ] refl any

-- numbers in a range
pub in_range : (a n b : ℕ) → Contains (range_with_len a n) b → (a ≤ b) × (b < a + n)
in_range a zero b has = absurd (contains_none b has)
in_range a (suc n) b has =
    elim (contains_cons a (range_with_len (a + 1) n) b has) [
      | inl same ↦ (omega (arith, same), omega (arith, same))
      | inr later ↦ (let found = in_range (a + 1) n b later in (omega (arith, found.0), omega (arith, found.1)))
    ]

pub range_has : (a n b : ℕ) → a ≤ b → b < a + n → Contains (range_with_len a n) b
range_has a zero b low high = absurd (omega arith)
range_has a (suc n) b low high =
    elim (cases_eq a b) [
      | inl same ↦ contains_here a (range_with_len (a + 1) n) b same
      | inr apart ↦ contains_tail a (range_with_len (a + 1) n) b (range_has (a + 1) n b (omega arith) (omega arith))
    ]

-- one number more
pub range_more : (a n : ℕ) → range_with_len a n ++ (a + n) ∷ [] ≡ range_with_len a (n + 1)
range_more a zero = let same : a + zero ≡ a = omega arith in rw same refl
range_more a (suc n) =
    let next : a + suc n ≡ a + 1 + n = omega arith in let more : suc n + 1 ≡ suc (n + 1) = omega arith in
    rw (next, more) (ap (λ r. a ∷ r) (range_more (a + 1) n))

pub range_take : (h a n : ℕ) → h ≤ n → take h (range_with_len a n) ≡ range_with_len a h
range_take zero a n low = refl
range_take (suc h) a zero low = absurd (omega arith)
range_take (suc h) a (suc n) low = ap (λ r. a ∷ r) (range_take h (a + 1) n (omega arith))

pub range_drop : (h a n : ℕ) → drop h (range_with_len a n) ≡ range_with_len (a + h) (n - h)
range_drop zero a n = rw (add-zero a, sub-zero n) refl
range_drop (suc h) a zero = let none : zero - suc h ≡ zero = omega arith in rw none refl
range_drop (suc h) a (suc n) =
    let more : a + 1 + h ≡ a + suc h = omega arith in let less : suc n - suc h ≡ n - h = omega arith in
    rw less (range_drop h (a + 1) n ∙ ap (λ s. range_with_len s (n - h)) more)

-- all links from one node
links_from : ℕ → List ℕ → List (ℕ × ℕ)
links_from a bs = map (λ b. (a, b)) bs

from_one : (a : ℕ) (bs : List ℕ) (l : ℕ × ℕ) → Contains (map (λ b. (a, b)) bs) l → (l.0 ≡ a) × Contains bs l.1
from_one a [] l has = absurd (contains_none l has)
from_one a (b ∷ bs) l has =
    elim (contains_cons (a, b) (map (λ b. (a, b)) bs) l has) [
      | inl same ↦ (sym (ap (λ q. q.0) same), contains_here b bs l.1 (ap (λ q. q.1) same))
      | inr later ↦ (let found = from_one a bs l later in (found.0, contains_tail b bs l.1 found.1))
    ]

one_to : (a : ℕ) (bs : List ℕ) (b : ℕ) → Contains bs b → Contains {X = ℕ × ℕ} (map (λ b. (a, b)) bs) (a, b)
one_to a [] b has = absurd (contains_none b has)
one_to a (x ∷ bs) b has =
    elim (contains_cons x bs b has) [
      | inl same ↦ contains_here (a, x) (map (λ b. (a, b)) bs) (a, b) (ap (λ y. (a, y)) same)
      | inr later ↦ contains_tail (a, x) (map (λ b. (a, b)) bs) (a, b) (one_to a bs b later)
    ]

-- all links from some nodes
pub from_some : (sources bs : List ℕ) (l : ℕ × ℕ) → Contains (flat_map (λ a. map (λ b. (a, b)) bs) sources) l → Contains sources l.0 × Contains bs l.1
from_some [] bs l has = absurd (contains_none l has)
from_some (a ∷ sources) bs l has =
    elim (Contains-append_cases (map (λ b. (a, b)) bs) (flat_map (λ a. map (λ b. (a, b)) bs) sources) l has) [
      | inl here ↦ (let found = from_one a bs l here in (contains_here a sources l.0 (sym found.0), found.1))
      | inr later ↦ (let found = from_some sources bs l later in (contains_tail a sources l.0 found.0, found.1))
    ]

pub some_to : (sources bs : List ℕ) (a b : ℕ) → Contains sources a → Contains bs b → Contains {X = ℕ × ℕ} (flat_map (λ a. map (λ b. (a, b)) bs) sources) (a, b)
some_to [] bs a b has to = absurd (contains_none a has)
some_to (x ∷ sources) bs a b has to =
    elim (contains_cons x sources a has) [
      | inl same ↦ rw same (Contains-append_left (map (λ b. (a, b)) bs) (flat_map (λ a. map (λ b. (a, b)) bs) sources) (a, b) (one_to a bs b to))
      | inr later ↦ Contains-append_right (map (λ b. (x, b)) bs) (flat_map (λ a. map (λ b. (a, b)) bs) sources) (a, b) (some_to sources bs a b later to)
    ]

-- the links from one node, and then others from later ones, ascend
row_ascends : (a b n : ℕ) (rest : List (ℕ × ℕ)) → IsAscending rest → ((l : ℕ × ℕ) → Contains rest l → a < l.0)
    → IsAscending (map (λ b. (a, b)) (range_with_len b n) ++ rest)
row_ascends a b zero rest ascends later = ascends
row_ascends a b (suc n) rest ascends later =
    AllPairs-cons IsBefore (a, b) (map (λ b. (a, b)) (range_with_len (b + 1) n) ++ rest)
    (all_from (IsBefore (a, b)) (map (λ b. (a, b)) (range_with_len (b + 1) n) ++ rest) (λ l has.
    elim (Contains-append_cases (map (λ b. (a, b)) (range_with_len (b + 1) n)) rest l has) [
      | inl here ↦ (let found = from_one a (range_with_len (b + 1) n) l here in let high = in_range (b + 1) n l.1 found.1 in
          (omega (arith, found.0), (λ same. omega (arith, high.0))))
      | inr there ↦ (let above = later l there in (omega (arith, above), (λ same. absurd (omega (arith, above, same)))))
    ]))
    (row_ascends a (b + 1) n rest ascends later)

pub rows_ascend : (a k n : ℕ) → IsAscending (flat_map (λ a. map (λ b. (a, b)) (range_with_len 0 n)) (range_with_len a k))
rows_ascend a zero n = λ i j d less below. absurd (omega arith)
rows_ascend a (suc k) n =
    row_ascends a 0 n (flat_map (λ a. map (λ b. (a, b)) (range_with_len 0 n)) (range_with_len (a + 1) k)) (rows_ascend (a + 1) k n)
    (λ l has. let found = in_range (a + 1) k l.0 (from_some (range_with_len (a + 1) k) (range_with_len 0 n) l has).0 in omega (arith, found.0))

-- the links that are such ascend
pub links_ascend : (is : (ℕ × ℕ) → Bool) (n : ℕ) → IsAscending (links_that is n)
links_ascend is n = AllPairs-filter IsBefore is (all_pairs n) (rows_ascend 0 n n)

-- among them is a link exactly if it is such and between two of the nodes
pub in_links : (is : (ℕ × ℕ) → Bool) (n : ℕ) (l : ℕ × ℕ) → Contains (links_that is n) l → (l.0 < n) × (l.1 < n) × (is l ≡ true)
in_links is n l has =
    let found = kept is (all_pairs n) l has in
    let ends = from_some (range_with_len 0 n) (range_with_len 0 n) l found.0 in
    (let source = in_range 0 n l.0 ends.0 in let destination = in_range 0 n l.1 ends.1 in (omega (arith, source.1), omega (arith, destination.1), found.1))

pub links_have : (is : (ℕ × ℕ) → Bool) (n a b : ℕ) → a < n → b < n → is (a, b) ≡ true → Contains (links_that is n) (a, b)
links_have is n a b from to such =
    keeps is (all_pairs n) (a, b)
    (some_to (range_with_len 0 n) (range_with_len 0 n) a b (range_has 0 n a (omega arith) (omega arith)) (range_has 0 n b (omega arith) (omega arith))) such

-- no link comes before another that comes before it
not_both : (k l : ℕ × ℕ) → IsBefore k l → IsBefore l k → ⊥
not_both k l there back =
    let low : k.0 ≤ l.0 = there.0 in let high : l.0 ≤ k.0 = back.0 in let same : k.0 ≡ l.0 = omega arith in
    let up : k.1 < l.1 = there.1 same in let down : l.1 < k.1 = back.1 (sym same) in omega arith

not_itself : (k : ℕ × ℕ) → IsBefore k k → ⊥
not_itself k before = not_both k k before before

-- one ascending list has the same links
pub ascending_alone : (ks ls : List (ℕ × ℕ)) → IsAscending ks → IsAscending ls → ((l : ℕ × ℕ) → Contains ks l → Contains ls l) → ((l : ℕ × ℕ) → Contains ls l → Contains ks l)
    → ks ≡ ls
ascending_alone [] [] up down there back = refl
ascending_alone [] (l ∷ ls) up down there back = absurd (contains_none l (back l (contains_head l ls)))
ascending_alone (k ∷ ks) [] up down there back = absurd (contains_none k (there k (contains_head k ks)))
ascending_alone (k ∷ ks) (l ∷ ls) up down there back =
    let after_k : (x : ℕ × ℕ) → Contains ks x → IsBefore k x = λ x has. All-contains (IsBefore k) ks x (all_pairs_head IsBefore k ks up) has in
    let after_l : (x : ℕ × ℕ) → Contains ls x → IsBefore l x = λ x has. All-contains (IsBefore l) ls x (all_pairs_head IsBefore l ls down) has in
    let same : k ≡ l = elim (contains_cons l ls k (there k (contains_head k ks))) [
      | inl is ↦ sym is
      | inr later ↦ elim (contains_cons k ks l (back l (contains_head l ls))) [ inl is ↦ is | inr too ↦ absurd (not_both l k (after_l k later) (after_k l too)) ]
    ] in
    let rest : ks ≡ ls = ascending_alone ks ls (all_pairs_tail IsBefore k ks up) (all_pairs_tail IsBefore l ls down)
    (λ x has. elim (contains_cons l ls x (there x (contains_tail k ks x has))) [
      | inl is ↦ absurd (not_itself k (subst (λ y. IsBefore k y) (sym is ∙ sym same) (after_k x has)))
      | inr later ↦ later
    ])
    (λ x has. elim (contains_cons k ks x (back x (contains_tail l ls x has))) [
      | inl is ↦ absurd (not_itself l (subst (λ y. IsBefore l y) (sym is ∙ same) (after_l x has)))
      | inr later ↦ later
    ]) in
    ap (λ x. x ∷ ks) same ∙ ap (λ xs. l ∷ xs) rest

-- the one list of links of a grudge
pub links_are : (Drops : ℕ → ℕ → Type 0) (is : (ℕ × ℕ) → Bool) (n : ℕ) (links : List (ℕ × ℕ)) → CutsExactly Drops links → IsAscending links
    → CutsExactly Drops (links_that is n) → links ≡ links_that is n
links_are Drops is n links cuts ascends exact =
    ascending_alone links (links_that is n) ascends (links_ascend is n)
    (λ l has. (exact l.1 l.0).1 ((cuts l.1 l.0).0 has))
    (λ l has. (cuts l.1 l.0).1 ((exact l.1 l.0).0 has))
