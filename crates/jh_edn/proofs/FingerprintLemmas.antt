-- Equal values have one fingerprint, so values with different ones are not equal.
use Rattle.std.proofs.Common.{◌≡◌, ℕ, ◌+◌, ◌%◌, ◌^◌, ◌<◌, ◌≤◌, inl, inr, Bool, true, false, cond, List, [], ◌∷◌, length, take, get_or, map, refl, sym, ap, subst, ◌∙◌, arith}
use Rattle.std.specs.Prelude.{◌==◌}
use Rattle.std.specs.Bool.{MatchBool}
use Rattle.std.specs.List.{AllByRecursion, count_by}
use Rattle.std.specs.List.Sorted.{IsPermutation, IsSorted, IsStrictlyIncreasing, IsStrictlySortedBy}
use Rattle.std.specs.Ordering.{nat_cmp}
use Rattle.std.specs.declared.cmp.Ordering.TheVariants.{Less}
use Rattle.std.proofs.lemmas.Bool.{eqb-true, eqb-false}
use Rattle.std.proofs.lemmas.Cmp.{nat_cmp_total, tied_itself}
use Rattle.std.proofs.lemmas.List.Sums.{sum_by-cons, sum_by-take-le, count_by_more_yes}
use Rattle.std.proofs.lemmas.List.Sorted.{sum_by-IsPermutation}
use Rattle.std.proofs.lemmas.Map.Keys.{sorted_from_strictly_increasing, ge_from_not_lt}
use Rattle.jh_edn.specs.Edn.{Edn, nil, boolean, int, char, str, keyword, symbol, list, vector, mapping, set, tagged, Items, no_items, item, items_of, Members, no_members, member, members_of}
use Rattle.jh_edn.specs.Equality.{IsSequence, PicksItem, Picks, Equals, AreEqualItems, AreEqualElements, AreEqualMembers, IsNew, Differ, keys_of}
use Rattle.jh_edn.specs.Fingerprint.{mix, text_number, items_number, sum_of_items, sum_of_members, fingerprint, fingerprints, StandOnce}
use Rattle.jh_edn.specs.Reading.{repeats_key, repeats_element}
use Rattle.jh_edn.proofs.KeyLemmas.{sum_taken, sum_picked, no_key_twice, no_element_twice}

-- ---- equal values have one

abbrev of_pair : Edn → Edn → ℕ
of_pair k v = mix (fingerprint k) (fingerprint v)

number_taken : (x : Edn) (ys others : Items) → PicksItem x ys others → sum_of_items ys ≡ fingerprint x + sum_of_items others
number_taken = sum_taken fingerprint sum_of_items (λ y ys. refl)

number_picked : (key value : Edn) (ns others : Members) → Picks key value ns others → sum_of_members ns ≡ of_pair key value + sum_of_members others
number_picked = sum_picked of_pair sum_of_members (λ k v ns. refl)

sequence_number : (y : Edn) (ys : Items) → IsSequence y ys → mix 7 (items_number 0 ys) ≡ fingerprint y
sequence_number y ys h = elim h [ inl p ↦ ap fingerprint (sym p) | inr p ↦ ap fingerprint (sym p) ]

mutual
  pub same_fingerprint : (x y : Edn) → Equals x y → fingerprint x ≡ fingerprint y
  same_fingerprint nil y h = ap fingerprint (sym h)
  same_fingerprint (boolean b) y h = ap fingerprint (sym h)
  same_fingerprint (int z) y h = ap fingerprint (sym h)
  same_fingerprint (char c) y h = ap fingerprint (sym h)
  same_fingerprint (str s) y h = ap fingerprint (sym h)
  same_fingerprint (keyword s) y h = ap fingerprint (sym h)
  same_fingerprint (symbol s) y h = ap fingerprint (sym h)
  same_fingerprint (list xs) y h = ap (mix 7) (same_in_turn 0 xs h.0 h.2) ∙ sequence_number y h.0 h.1
  same_fingerprint (vector xs) y h = ap (mix 7) (same_in_turn 0 xs h.0 h.2) ∙ sequence_number y h.0 h.1
  same_fingerprint (mapping ms) y h = ap (λ n. mix 8 (n % 2 ^ 64)) (same_members ms h.0 h.2) ∙ ap fingerprint (sym h.1)
  same_fingerprint (set xs) y h = ap (λ n. mix 9 (n % 2 ^ 64)) (same_elements xs h.0 h.2) ∙ ap fingerprint (sym h.1)
  same_fingerprint (tagged tag x) y h = ap (λ n. mix 10 (mix (text_number tag) n)) (same_fingerprint x h.0 h.2) ∙ ap fingerprint (sym h.1)

  same_in_turn : (n : ℕ) (xs ys : Items) → AreEqualItems xs ys → items_number n xs ≡ items_number n ys
  same_in_turn n no_items ys h = ap (items_number n) (sym h)
  same_in_turn n (item x xs) ys h =
      ap (λ m. items_number (mix n m) xs) (same_fingerprint x h.0 h.3) ∙ same_in_turn (mix n (fingerprint h.0)) xs h.1 h.4 ∙ ap (items_number n) (sym h.2)

  same_elements : (xs ys : Items) → AreEqualElements xs ys → sum_of_items xs ≡ sum_of_items ys
  same_elements no_items ys h = ap sum_of_items (sym h)
  same_elements (item x xs) ys h =
      let head : fingerprint x ≡ fingerprint h.0 = same_fingerprint x h.0 h.3 in
      omega (arith, head, same_elements xs h.1 h.4, number_taken h.0 ys h.1 h.2)

  same_members : (ms ns : Members) → AreEqualMembers ms ns → sum_of_members ms ≡ sum_of_members ns
  same_members no_members ns h = ap sum_of_members (sym h)
  same_members (member k v ms) ns h =
      let head : of_pair k v ≡ of_pair h.0 h.1 = λ i. mix (same_fingerprint k h.0 h.4 i) (same_fingerprint v h.1 h.5 i) in
      omega (arith, head, same_members ms h.2 h.6, number_picked h.0 h.1 ns h.2 h.3)

-- ---- numbers that stand once

abbrev count : ℕ → List ℕ → ℕ
count z ns = count_by (λ n. n == z) ns

count_more : (z n : ℕ) (ns : List ℕ) → count z (n ∷ ns) ≡ cond (n == z) 1 0 + count z ns
count_more z n ns = sum_by-cons (λ m. cond (m == z) 1 0) n ns

itself : (n : ℕ) → (n == n) ≡ true
itself n = elim (n == n) as (λ b. (n == n) ≡ b → b ≡ true) [ true ↦ λ e. refl | false ↦ λ e. absurd (eqb-false n n e refl) ] refl

-- a number below all of these is none of them
none_below : (z : ℕ) (ns : List ℕ) → AllByRecursion (λ n. nat_cmp z n ≡ Less) ns → count z ns ≡ 0
none_below z [] h = refl
none_below z (n ∷ ns) h =
    count_more z n ns ∙ elim (n == z) as (λ b. (n == z) ≡ b → cond b 1 0 + count z ns ≡ 0) [
      | true ↦ λ e. absurd (let same = eqb-true n z e in let tie = tied_itself nat_cmp_total z in let less = subst (λ m. nat_cmp z m ≡ Less) same h.0 in let bad = sym tie ∙ less in cc)
      | false ↦ λ e. (let rest = none_below z ns h.1 in omega (arith, rest))
    ] refl

once : (z : ℕ) (ns : List ℕ) → IsStrictlySortedBy nat_cmp ns → count z ns ≤ 1
unfolding IsStrictlySortedBy
once z [] h = omega arith
once z (n ∷ ns) h =
    elim (n == z) as (λ b. (n == z) ≡ b → count z (n ∷ ns) ≤ 1) [
      | true ↦ λ e.
          let none : count z ns ≡ 0 = subst (λ m. count m ns ≡ 0) (eqb-true n z e) (none_below n ns h.0) in
          let head : count z (n ∷ ns) ≡ 1 + count z ns = count_more z n ns ∙ ap (λ b. cond b 1 0 + count z ns) e in
          omega (arith, none, head)
      | false ↦ λ e.
          let head : count z (n ∷ ns) ≡ 0 + count z ns = count_more z n ns ∙ ap (λ b. cond b 1 0 + count z ns) e in
          omega (arith, head, once z ns h.1)
    ] refl

once_in_order : (ns ms : List ℕ) → IsPermutation ns ms → IsStrictlyIncreasing ms → StandOnce ns
once_in_order ns ms moved up z =
    let same : count z ms ≡ count z ns = sum_by-IsPermutation (λ n. cond (n == z) 1 0) ns ms moved in
    omega (arith, same, once z ms (sorted_from_strictly_increasing ms up))

-- neighbours that are equal stand twice
twice : (z : ℕ) (ns : List ℕ) (k : ℕ) → k + 1 < length ns → get_or ns k 0 ≡ z → get_or ns (k + 1) 0 ≡ z → 2 ≤ count z ns
twice z ns k h a b =
    let p : ℕ → Bool = λ n. n == z in
    let first : count z (take (k + 1) ns) ≡ count z (take k ns) + 1 = count_by_more_yes p ns k 0 (omega arith) (ap p a ∙ itself z) in
    let second : count z (take (k + 1 + 1) ns) ≡ count z (take (k + 1) ns) + 1 = count_by_more_yes p ns (k + 1) 0 h (ap p b ∙ itself z) in
    omega (arith, first, second, sum_by-take-le (λ n. cond (n == z) 1 0) ns (k + 1 + 1))

up_where_once : (ns ms : List ℕ) → IsPermutation ns ms → IsSorted nat_cmp ms → StandOnce ns → IsStrictlyIncreasing ms
up_where_once ns ms moved sorted one k h =
    let a = get_or ms k 0 in
    let b = get_or ms (k + 1) 0 in
    let same : count a ms ≡ count a ns = sum_by-IsPermutation (λ n. cond (n == a) 1 0) ns ms moved in
    let level : a ≤ b = ge_from_not_lt b a (sorted k 0 (omega arith) h) in
    elim (b == a) as (λ t. (b == a) ≡ t → a < b) [
      | true ↦ λ e. absurd (omega (arith, same, one a, twice a ms k h refl (eqb-true b a e)))
      | false ↦ λ e. (let other : b ≡ a → ⊥ = eqb-false b a e in omega (arith, level, other))
    ] refl

pub once_exactly : (b : Bool) (ns ms : List ℕ) → IsPermutation ns ms → IsSorted nat_cmp ms → MatchBool b (IsStrictlyIncreasing ms) (IsStrictlyIncreasing ms → ⊥) → MatchBool b (StandOnce ns) (StandOnce ns → ⊥)
once_exactly true ns ms moved sorted h = once_in_order ns ms moved h
once_exactly false ns ms moved sorted h = λ one. h (up_where_once ns ms moved sorted one)

pub parsed_once : (b : Bool) (ns : List ℕ) → b ≡ true → MatchBool b (StandOnce ns) (StandOnce ns → ⊥) → StandOnce ns
parsed_once true ns e h = h
parsed_once false ns e h = absurd cc

-- ---- values whose fingerprints stand once

abbrev numbers : Items → List ℕ
numbers no_items = []
numbers (item x xs) = fingerprint x ∷ numbers xs

new_from : (x : Edn) (xs : Items) → count (fingerprint x) (numbers xs) ≡ 0 → IsNew x xs
new_from x no_items h = tt
new_from x (item y ys) h =
    let z = fingerprint x in
    let n = fingerprint y in
    let whole : cond (n == z) 1 0 + count z (numbers ys) ≡ 0 = sym (count_more z n (numbers ys)) ∙ h in
    elim (n == z) as (λ b. (n == z) ≡ b → cond b 1 0 + count z (numbers ys) ≡ 0 → IsNew x (item y ys)) [
      | true ↦ λ e l. absurd (omega (arith, l))
      | false ↦ λ e l. (λ same. eqb-false n z e (sym (same_fingerprint x y same)), new_from x ys (omega (arith, l)))
    ] refl whole

differ : (xs : Items) → StandOnce (numbers xs) → Differ xs
differ no_items h = tt
differ (item x xs) h =
    let z = fingerprint x in
    let own : count z (z ∷ numbers xs) ≡ 1 + count z (numbers xs) = count_more z z (numbers xs) ∙ ap (λ b. cond b 1 0 + count z (numbers xs)) (itself z) in
    let others : StandOnce (numbers xs) = λ w. omega (arith, h w, count_more w z (numbers xs)) in
    (new_from x xs (omega (arith, h z, own)), differ xs others)

elements_numbered : (xs : List Edn) → fingerprints xs ≡ numbers (items_of xs)
elements_numbered [] = refl
elements_numbered (x ∷ xs) = ap (λ w. fingerprint x ∷ w) (elements_numbered xs)

keys_numbered : (ms : List (Edn × Edn)) → map (λ m. fingerprint m.0) ms ≡ numbers (keys_of (members_of ms))
keys_numbered [] = refl
keys_numbered (m ∷ ms) = ap (λ w. fingerprint m.0 ∷ w) (keys_numbered ms)

pub no_element_repeated : (xs : List Edn) → StandOnce (fingerprints xs) → repeats_element xs ≡ false
no_element_repeated xs h = no_element_twice xs (differ (items_of xs) (subst StandOnce (elements_numbered xs) h))

pub no_key_repeated : (ms : List (Edn × Edn)) → StandOnce (map (λ m. fingerprint m.0) ms) → repeats_key ms ≡ false
no_key_repeated ms h = no_key_twice ms (differ (keys_of (members_of ms)) (subst StandOnce (keys_numbered ms) h))
