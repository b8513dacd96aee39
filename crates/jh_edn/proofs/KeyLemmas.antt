-- Two values have one key exactly where they are equal.
use Rattle.std.proofs.Common.{◌≡◌, ℕ, ◌+◌, ◌<◌, inl, inr, Bool, true, false, cond, eqb, List, [], ◌∷◌, ◌++◌, get_or, map, refl, sym, ap, ◌∙◌, append_assoc, arith}
use Rattle.std.specs.Prelude.{ℤ, pos, ◌||◌}
use Rattle.std.specs.Ordering.{is_eq}
use Rattle.std.specs.List.Sorted.{ties}
use Rattle.std.proofs.lemmas.Bool.{eqb-false}
use Rattle.jh_edn.specs.declared.key.KeyMark.TheVariants as mark
use Rattle.jh_edn.specs.Edn.{Edn, nil, boolean, int, char, str, keyword, symbol, list, vector, mapping, set, tagged, Items, no_items, item, items_of, Members, no_members, member, members_of}
use Rattle.jh_edn.specs.Equality.{IsSequence, PicksItem, Picks, Equals, AreEqualItems, AreEqualElements, AreEqualMembers, IsNew, Differ, keys_of, KeysDiffer}
use Rattle.jh_edn.specs.Order.{in_order, kind_of}
use Rattle.jh_edn.specs.Key.{KeyPart, bare_part, numbered_part, text_part, mark_place, key_cmp, is_key_below, marked_keys, key_of, item_keys, pair_keys, is_in, has_twice_after}
use Rattle.jh_edn.specs.Reading.{repeats_key, repeats_element}
use Rattle.jh_edn.proofs.SortLemmas as sorting
use Rattle.jh_edn.proofs.KeyOrderLemmas.{key_order, ties_exact, same_is, same_itself}
use Rattle.jh_edn.proofs.RepeatedKeyLemmas.{is_in-push}

abbrev pub Key : Type 0
Key = List KeyPart

-- 1 where the two are one key
abbrev pub one : Key → Key → ℕ
one z w = cond (ties is_key_below z w) 1 0

abbrev pub count : Key → List Key → ℕ
count = sorting.count is_key_below key_order

abbrev pub sorted : List Key → List Key
sorted = in_order is_key_below

-- lists of keys with the same counts have one order
pub same_order : (ks ls : List Key) → ((z : Key) → count z ks ≡ count z ls) → sorted ks ≡ sorted ls
same_order ks ls h =
    sorting.one_order is_key_below key_order ties_exact (sorted ks) (sorted ls) (sorting.in_order_ascends is_key_below key_order ks) (sorting.in_order_ascends is_key_below key_order ls)
    (λ z. sorting.in_order_count is_key_below key_order z ks ∙ h z ∙ sym (sorting.in_order_count is_key_below key_order z ls))

-- ---- equal values have one key

-- what is summed over elements, or over pairs, of which one is picked
module _ (of : Edn → ℕ) (total : Items → ℕ) (more : (y : Edn) (ys : Items) → total (item y ys) ≡ of y + total ys) where
  pub sum_taken : (x : Edn) (ys others : Items) → PicksItem x ys others → total ys ≡ of x + total others
  sum_taken x no_items others h = absurd h
  sum_taken x (item y ys) others h =
      elim h [
        | inl p ↦ rw (p.0, p.1) (more x ys)
        | inr p ↦ (let same = ap total p.1 ∙ more y p.0 in omega (arith, more y ys, sum_taken x ys p.0 p.2, same))
      ]

module _ (of : Edn → Edn → ℕ) (total : Members → ℕ) (more : (k v : Edn) (ns : Members) → total (member k v ns) ≡ of k v + total ns) where
  pub sum_picked : (key value : Edn) (ns others : Members) → Picks key value ns others → total ns ≡ of key value + total others
  sum_picked key value no_members others h = absurd h
  sum_picked key value (member k v ns) others h =
      elim h [
        | inl p ↦ rw (p.0, p.1, p.2) (more key value ns)
        | inr p ↦ (let same = ap total p.1 ∙ more k v p.0 in omega (arith, more k v ns, sum_picked key value ns p.0 p.2, same))
      ]

taken_count : (z : Key) (x : Edn) (ys others : Items) → PicksItem x ys others → count z (item_keys ys) ≡ one z (key_of x) + count z (item_keys others)
taken_count z = sum_taken (λ x. one z (key_of x)) (λ ys. count z (item_keys ys)) (λ y ys. refl)

picked_count : (z : Key) (key value : Edn) (ns others : Members) → Picks key value ns others
    → count z (pair_keys ns) ≡ one z (key_of key ++ key_of value) + count z (pair_keys others)
picked_count z = sum_picked (λ k v. one z (key_of k ++ key_of v)) (λ ns. count z (pair_keys ns)) (λ k v ns. refl)

abbrev sequence : List Key → Key
sequence ks = bare_part mark.Sequence ∷ marked_keys ks

sequence_key : (y : Edn) (ys : Items) → IsSequence y ys → sequence (item_keys ys) ≡ key_of y
sequence_key y ys h = elim h [ inl p ↦ ap key_of (sym p) | inr p ↦ ap key_of (sym p) ]

mutual
  pub same_key : (x y : Edn) → Equals x y → key_of x ≡ key_of y
  same_key nil y h = ap key_of (sym h)
  same_key (boolean b) y h = ap key_of (sym h)
  same_key (int z) y h = ap key_of (sym h)
  same_key (char c) y h = ap key_of (sym h)
  same_key (str s) y h = ap key_of (sym h)
  same_key (keyword s) y h = ap key_of (sym h)
  same_key (symbol s) y h = ap key_of (sym h)
  same_key (list xs) y h = ap sequence (same_items xs h.0 h.2) ∙ sequence_key y h.0 h.1
  same_key (vector xs) y h = ap sequence (same_items xs h.0 h.2) ∙ sequence_key y h.0 h.1
  same_key (mapping ms) y h =
      ap (λ w. bare_part mark.Map ∷ marked_keys w) (same_order (pair_keys ms) (pair_keys h.0) (same_members ms h.0 h.2)) ∙ ap key_of (sym h.1)
  same_key (set xs) y h =
      ap (λ w. bare_part mark.Set ∷ marked_keys w) (same_order (item_keys xs) (item_keys h.0) (same_elements xs h.0 h.2)) ∙ ap key_of (sym h.1)
  same_key (tagged tag x) y h = ap (λ w. text_part mark.Tagged tag ∷ w) (same_key x h.0 h.2) ∙ ap key_of (sym h.1)

  same_items : (xs ys : Items) → AreEqualItems xs ys → item_keys xs ≡ item_keys ys
  same_items no_items ys h = ap item_keys (sym h)
  same_items (item x xs) ys h = (λ i. same_key x h.0 h.3 i ∷ same_items xs h.1 h.4 i) ∙ ap item_keys (sym h.2)

  same_elements : (xs ys : Items) → AreEqualElements xs ys → (z : Key) → count z (item_keys xs) ≡ count z (item_keys ys)
  same_elements no_items ys h z = ap (λ w. count z (item_keys w)) (sym h)
  same_elements (item x xs) ys h z =
      let head : one z (key_of x) ≡ one z (key_of h.0) = ap (one z) (same_key x h.0 h.3) in
      omega (arith, head, same_elements xs h.1 h.4 z, taken_count z h.0 ys h.1 h.2)

  same_members : (ms ns : Members) → AreEqualMembers ms ns → (z : Key) → count z (pair_keys ms) ≡ count z (pair_keys ns)
  same_members no_members ns h z = ap (λ w. count z (pair_keys w)) (sym h)
  same_members (member k v ms) ns h z =
      let head : one z (key_of k ++ key_of v) ≡ one z (key_of h.0 ++ key_of h.1) = λ i. one z (same_key k h.0 h.4 i ++ same_key v h.1 h.5 i) in
      omega (arith, head, same_members ms h.2 h.6 z, picked_count z h.0 h.1 ns h.2 h.3)

-- ---- values with one key are equal, and a key ends by itself

abbrev pub Splits : Edn → Type 0
Splits x = (y : Edn) (r s : Key) → key_of x ++ r ≡ key_of y ++ s → Equals x y × (r ≡ s)

abbrev SplitItems : Items → Type 0
SplitItems no_items = Unit {0}
SplitItems (item x xs) = Splits x × SplitItems xs

abbrev SplitMembers : Members → Type 0
SplitMembers no_members = Unit {0}
SplitMembers (member k v ms) = Splits k × Splits v × SplitMembers ms

-- this key ends by itself: what begins like it and with one of P begins with that one
abbrev Free : (Key → Type 0) → Key → Type 0
Free P a = (b : Key) → P b → (r s : Key) → a ++ r ≡ b ++ s → (a ≡ b) × (r ≡ s)

abbrev IsElement : Key → Type 0
IsElement b = (y : Edn) × (b ≡ key_of y)

abbrev IsPair : Key → Type 0
IsPair b = (k : Edn) × (v : Edn) × (b ≡ key_of k ++ key_of v)

abbrev Each : (Key → Type 0) → List Key → Type 0
Each = sorting.Each is_key_below key_order

marked_split : (P : Key → Type 0) (ks ls : List Key) (r s : Key) → Each (Free P) ks → Each P ls → marked_keys ks ++ r ≡ marked_keys ls ++ s → (ks ≡ ls) × (r ≡ s)
marked_split P [] [] r s h k e = (refl, cc)
marked_split P [] (b ∷ ls) r s h k e = absurd (let bad : bare_part mark.Last ≡ bare_part mark.More = cc in let places : 0 ≡ 1 = ap (λ p. mark_place p.mark) bad in cc)
marked_split P (a ∷ ks) [] r s h k e = absurd (let bad : bare_part mark.More ≡ bare_part mark.Last = cc in let places : 1 ≡ 0 = ap (λ p. mark_place p.mark) bad in cc)
marked_split P (a ∷ ks) (b ∷ ls) r s h k e =
    let tails : (a ++ marked_keys ks) ++ r ≡ (b ++ marked_keys ls) ++ s = cc in
    let parts : a ++ (marked_keys ks ++ r) ≡ b ++ (marked_keys ls ++ s) = sym (append_assoc a (marked_keys ks) r) ∙ tails ∙ append_assoc b (marked_keys ls) s in
    let head = h.0 b k.0 (marked_keys ks ++ r) (marked_keys ls ++ s) parts in
    let below = marked_split P ks ls r s h.1 k.1 head.1 in
    (λ i. head.0 i ∷ below.0 i, below.1)

element_free : (x : Edn) → Splits x → Free IsElement (key_of x)
element_free x split_x b is r s e =
    let p = split_x is.0 r s (e ∙ ap (λ (w : Key). w ++ s) is.1) in
    (same_key x is.0 p.0 ∙ sym is.1, p.1)

elements_free : (xs : Items) → SplitItems xs → Each (Free IsElement) (item_keys xs)
elements_free no_items h = tt
elements_free (item x xs) h = (element_free x h.0, elements_free xs h.1)

are_elements : (xs : Items) → Each IsElement (item_keys xs)
are_elements no_items = tt
are_elements (item x xs) = ((x, refl), are_elements xs)

pair_free : (k v : Edn) → Splits k → Splits v → Free IsPair (key_of k ++ key_of v)
pair_free k v split_k split_v b is r s e =
    let l = is.0 in
    let w = is.1 in
    let parts : key_of k ++ (key_of v ++ r) ≡ key_of l ++ (key_of w ++ s) =
    sym (append_assoc (key_of k) (key_of v) r) ∙ e ∙ ap (λ (u : Key). u ++ s) is.2 ∙ append_assoc (key_of l) (key_of w) s in
    let first = split_k l (key_of v ++ r) (key_of w ++ s) parts in
    let second = split_v w r s first.1 in
    ((λ i. same_key k l first.0 i ++ same_key v w second.0 i) ∙ sym is.2, second.1)

pairs_free : (ms : Members) → SplitMembers ms → Each (Free IsPair) (pair_keys ms)
pairs_free no_members h = tt
pairs_free (member k v ms) h = (pair_free k v h.0 h.1, pairs_free ms h.2)

are_pairs : (ms : Members) → Each IsPair (pair_keys ms)
are_pairs no_members = tt
are_pairs (member k v ms) = ((k, v, refl), are_pairs ms)

-- an element with this key, and the others
abbrev FoundElement : Key → Items → Type 0
FoundElement z ys = (y : Edn) × (others : Items) × PicksItem y ys others × (z ≡ key_of y)

find_element : (z : Key) (ys : Items) → 0 < count z (item_keys ys) → FoundElement z ys
find_element z no_items less = absurd (omega arith)
find_element z (item y ys) less =
    elim (ties is_key_below z (key_of y)) as (λ b. ties is_key_below z (key_of y) ≡ b → 0 < cond b 1 0 + count z (item_keys ys) → FoundElement z (item y ys)) [
      | true ↦ λ e l. (y, ys, inl (refl, refl), ties_exact z (key_of y) e)
      | false ↦ λ e l. let p = find_element z ys (omega arith) in (p.0, item y p.1, inr (p.1, refl, p.2), p.3)
    ] refl less

-- a pair with this key, and the others
abbrev FoundPair : Key → Members → Type 0
FoundPair z ns = (key : Edn) × (value : Edn) × (others : Members) × Picks key value ns others × (z ≡ key_of key ++ key_of value)

find_pair : (z : Key) (ns : Members) → 0 < count z (pair_keys ns) → FoundPair z ns
find_pair z no_members less = absurd (omega arith)
find_pair z (member k v ns) less =
    let here = key_of k ++ key_of v in
    elim (ties is_key_below z here) as (λ b. ties is_key_below z here ≡ b → 0 < cond b 1 0 + count z (pair_keys ns) → FoundPair z (member k v ns)) [
      | true ↦ λ e l. (k, v, ns, inl (refl, refl, refl), ties_exact z here e)
      | false ↦ λ e l. let p = find_pair z ns (omega arith) in (p.0, p.1, member k v p.2, inr (p.2, refl, p.3), p.4)
    ] refl less

own : (z : Key) (ks : List Key) → 0 < count z (z ∷ ks)
own = sorting.own is_key_below key_order

elements_equal : (xs ys : Items) → SplitItems xs → ((z : Key) → count z (item_keys xs) ≡ count z (item_keys ys)) → AreEqualElements xs ys
elements_equal no_items no_items h c = refl
elements_equal no_items (item y ys) h c = absurd (omega (arith, c (key_of y), own (key_of y) (item_keys ys)))
elements_equal (item x xs) ys h c =
    let p = find_element (key_of x) ys (omega (arith, c (key_of x), own (key_of x) (item_keys xs))) in
    let first = h.0 p.0 [] [] (ap (λ (w : Key). w ++ []) p.3) in
    let others : (z : Key) → count z (item_keys xs) ≡ count z (item_keys p.1) =
    λ z.
    let same : one z (key_of x) ≡ one z (key_of p.0) = ap (one z) p.3 in
    omega (arith, c z, taken_count z p.0 ys p.1 p.2, same) in
    (p.0, p.1, p.2, first.0, elements_equal xs p.1 h.1 others)

members_equal : (ms ns : Members) → SplitMembers ms → ((z : Key) → count z (pair_keys ms) ≡ count z (pair_keys ns)) → AreEqualMembers ms ns
members_equal no_members no_members h c = refl
members_equal no_members (member k v ns) h c = let here = key_of k ++ key_of v in absurd (omega (arith, c here, own here (pair_keys ns)))
members_equal (member k v ms) ns h c =
    let here = key_of k ++ key_of v in
    let p = find_pair here ns (omega (arith, c here, own here (pair_keys ms))) in
    let first = h.0 p.0 (key_of v) (key_of p.1) p.4 in
    let second = h.1 p.1 [] [] (ap (λ (w : Key). w ++ []) first.1) in
    let others : (z : Key) → count z (pair_keys ms) ≡ count z (pair_keys p.2) =
    λ z.
    let same : one z here ≡ one z (key_of p.0 ++ key_of p.1) = ap (one z) p.4 in
    omega (arith, c z, picked_count z p.0 p.1 ns p.2 p.3, same) in
    (p.0, p.1, p.2, p.3, first.0, second.0, members_equal ms p.2 h.2 others)

-- what the keys in order are made of, they are made of as they stand
unsorted : (ks ls : List Key) → sorted ks ≡ sorted ls → (z : Key) → count z ks ≡ count z ls
unsorted ks ls e z = sym (sorting.in_order_count is_key_below key_order z ks) ∙ ap (count z) e ∙ sorting.in_order_count is_key_below key_order z ls

sets_split : (xs ys : Items) (r s : Key) → SplitItems xs → key_of (set xs) ++ r ≡ key_of (set ys) ++ s → AreEqualElements xs ys × (r ≡ s)
sets_split xs ys r s h e =
    let inner : marked_keys (sorted (item_keys xs)) ++ r ≡ marked_keys (sorted (item_keys ys)) ++ s = cc in
    let each = sorting.in_order_each is_key_below key_order in
    let p = marked_split IsElement (sorted (item_keys xs)) (sorted (item_keys ys)) r s (each (Free IsElement) (item_keys xs) (elements_free xs h)) (each IsElement (item_keys ys) (are_elements ys)) inner in
    (elements_equal xs ys h (unsorted (item_keys xs) (item_keys ys) p.0), p.1)

maps_split : (ms ns : Members) (r s : Key) → SplitMembers ms → key_of (mapping ms) ++ r ≡ key_of (mapping ns) ++ s → AreEqualMembers ms ns × (r ≡ s)
maps_split ms ns r s h e =
    let inner : marked_keys (sorted (pair_keys ms)) ++ r ≡ marked_keys (sorted (pair_keys ns)) ++ s = cc in
    let each = sorting.in_order_each is_key_below key_order in
    let p = marked_split IsPair (sorted (pair_keys ms)) (sorted (pair_keys ns)) r s (each (Free IsPair) (pair_keys ms) (pairs_free ms h)) (each IsPair (pair_keys ns) (are_pairs ns)) inner in
    (members_equal ms ns h (unsorted (pair_keys ms) (pair_keys ns) p.0), p.1)

abbrev bare_place : Key → ℕ
bare_place w = mark_place (get_or w 0 (bare_part mark.Last)).mark

-- a key begins with its value's kind
kind_first : (x : Edn) (r : Key) → bare_place (key_of x ++ r) ≡ 2 + kind_of x
kind_first nil r = refl
kind_first (boolean b) r = refl
kind_first (int z) r = refl
kind_first (char c) r = refl
kind_first (str s) r = refl
kind_first (keyword s) r = refl
kind_first (symbol s) r = refl
kind_first (list xs) r = refl
kind_first (vector xs) r = refl
kind_first (mapping ms) r = refl
kind_first (set xs) r = refl
kind_first (tagged tag x) r = refl

other_kind : (x y : Edn) (r s : Key) → key_of x ++ r ≡ key_of y ++ s → eqb (kind_of x) (kind_of y) ≡ false → ⊥
other_kind x y r s e differ = eqb-false (kind_of x) (kind_of y) differ (let same : 2 + kind_of x ≡ 2 + kind_of y = sym (kind_first x r) ∙ ap bare_place e ∙ kind_first y s in omega (arith, same))

abbrev bool_number : Bool → ℤ
bool_number b = pos (cond b 1 0)

bool_split : (b c : Bool) → bool_number b ≡ bool_number c → b ≡ c
bool_split true true e = refl
bool_split true false e = absurd cc
bool_split false true e = absurd cc
bool_split false false e = refl

-- the first parts of two keys, and what follows them
heads : (p q : KeyPart) (r s : Key) → p ∷ r ≡ q ∷ s → (p ≡ q) × (r ≡ s)
heads p q r s e = (cc, cc)

sequence_tail : (ks ls : List Key) (r s : Key) → sequence ks ++ r ≡ sequence ls ++ s → marked_keys ks ++ r ≡ marked_keys ls ++ s
sequence_tail ks ls r s e = (heads (bare_part mark.Sequence) (bare_part mark.Sequence) (marked_keys ks ++ r) (marked_keys ls ++ s) e).1

mutual
  pub split : (x y : Edn) (r s : Key) → key_of x ++ r ≡ key_of y ++ s → Equals x y × (r ≡ s)
  split nil nil r s e = (refl, (heads (bare_part mark.Nil) (bare_part mark.Nil) r s e).1)
  split (boolean b) (boolean c) r s e =
      let p = heads (numbered_part mark.Bool (bool_number b)) (numbered_part mark.Bool (bool_number c)) r s e in
      (ap boolean (sym (bool_split b c (ap (λ w. w.number) p.0))), p.1)
  split (int z) (int w) r s e =
      let p = heads (numbered_part mark.Int z) (numbered_part mark.Int w) r s e in
      (ap int (sym (ap (λ w. w.number) p.0)), p.1)
  split (char c) (char d) r s e =
      let p = heads (numbered_part mark.Char (pos c)) (numbered_part mark.Char (pos d)) r s e in
      let same : pos c ≡ pos d = ap (λ w. w.number) p.0 in
      let codes : c ≡ d = cc in
      (ap char (sym codes), p.1)
  split (str a) (str b) r s e =
      let p = heads (text_part mark.Str a) (text_part mark.Str b) r s e in
      (ap str (sym (ap (λ w. w.text) p.0)), p.1)
  split (keyword a) (keyword b) r s e =
      let p = heads (text_part mark.Keyword a) (text_part mark.Keyword b) r s e in
      (ap keyword (sym (ap (λ w. w.text) p.0)), p.1)
  split (symbol a) (symbol b) r s e =
      let p = heads (text_part mark.Symbol a) (text_part mark.Symbol b) r s e in
      (ap symbol (sym (ap (λ w. w.text) p.0)), p.1)
  split (list xs) (list ys) r s e = let p = items_split xs ys r s (sequence_tail (item_keys xs) (item_keys ys) r s e) in ((ys, inl refl, p.0), p.1)
  split (list xs) (vector ys) r s e = let p = items_split xs ys r s (sequence_tail (item_keys xs) (item_keys ys) r s e) in ((ys, inr refl, p.0), p.1)
  split (vector xs) (list ys) r s e = let p = items_split xs ys r s (sequence_tail (item_keys xs) (item_keys ys) r s e) in ((ys, inl refl, p.0), p.1)
  split (vector xs) (vector ys) r s e = let p = items_split xs ys r s (sequence_tail (item_keys xs) (item_keys ys) r s e) in ((ys, inr refl, p.0), p.1)
  split (mapping ms) (mapping ns) r s e = let p = maps_split ms ns r s (members_split ms) e in ((ns, refl, p.0), p.1)
  split (set xs) (set ys) r s e = let p = sets_split xs ys r s (elements_split xs) e in ((ys, refl, p.0), p.1)
  split (tagged a x) (tagged b y) r s e =
      let p = heads (text_part mark.Tagged a) (text_part mark.Tagged b) (key_of x ++ r) (key_of y ++ s) e in
      let below = split x y r s p.1 in
      let tags : b ≡ a = sym (ap (λ w. w.text) p.0) in
      ((y, ap (λ w. tagged w y) tags, below.0), below.1)
  split x y r s e = absurd (other_kind x y r s e refl)

  items_split : (xs ys : Items) (r s : Key) → marked_keys (item_keys xs) ++ r ≡ marked_keys (item_keys ys) ++ s → AreEqualItems xs ys × (r ≡ s)
  items_split no_items no_items r s e = (refl, (heads (bare_part mark.Last) (bare_part mark.Last) r s e).1)
  items_split no_items (item y ys) r s e =
      absurd (let bad = (heads (bare_part mark.Last) (bare_part mark.More) r ((key_of y ++ marked_keys (item_keys ys)) ++ s) e).0 in let places : 0 ≡ 1 = ap (λ p. mark_place p.mark) bad in cc)
  items_split (item x xs) no_items r s e =
      absurd (let bad = (heads (bare_part mark.More) (bare_part mark.Last) ((key_of x ++ marked_keys (item_keys xs)) ++ r) s e).0 in let places : 1 ≡ 0 = ap (λ p. mark_place p.mark) bad in cc)
  items_split (item x xs) (item y ys) r s e =
      let inner = (heads (bare_part mark.More) (bare_part mark.More) ((key_of x ++ marked_keys (item_keys xs)) ++ r) ((key_of y ++ marked_keys (item_keys ys)) ++ s) e).1 in
      let first = split x y (marked_keys (item_keys xs) ++ r) (marked_keys (item_keys ys) ++ s)
      (sym (append_assoc (key_of x) (marked_keys (item_keys xs)) r) ∙ inner ∙ append_assoc (key_of y) (marked_keys (item_keys ys)) s) in
      let below = items_split xs ys r s first.1 in
      ((y, ys, refl, first.0, below.0), below.1)

  elements_split : (xs : Items) → SplitItems xs
  elements_split no_items = tt
  elements_split (item x xs) = (λ y r s e. split x y r s e, elements_split xs)

  members_split : (ms : Members) → SplitMembers ms
  members_split no_members = tt
  members_split (member k v ms) = (λ y r s e. split k y r s e, λ y r s e. split v y r s e, members_split ms)

pub equal_from_key : (x y : Edn) → key_of x ≡ key_of y → Equals x y
equal_from_key x y e = (split x y [] [] (ap (λ (w : Key). w ++ []) e)).0

-- ---- repeated keys

or_false : (a b : Bool) → (a || b) ≡ false → (a ≡ false) × (b ≡ false)
or_false true b e = absurd cc
or_false false b e = (refl, e)

-- the key is none of these values'
abbrev Avoids : Key → Items → Type 0
Avoids b no_items = Unit {0}
Avoids b (item x xs) = (b ≡ key_of x → ⊥) × Avoids b xs

still_in : (b k : Key) (before : List Key) → is_in b before ≡ true → is_in b (before ++ k ∷ []) ≡ true
still_in b k before h = is_in-push b before k ∙ elim (is_eq (key_cmp k b)) as (λ t. cond t true (is_in b before) ≡ true) [ true ↦ refl | false ↦ h ]

now_in : (b : Key) (before : List Key) → is_in b (before ++ b ∷ []) ≡ true
now_in b before = is_in-push b before b ∙ rw (same_itself b) refl

avoids : (b : Key) (before : List Key) (xs : Items) → is_in b before ≡ true → has_twice_after before (item_keys xs) ≡ false → Avoids b xs
avoids b before no_items h e = tt
avoids b before (item x xs) h e =
    let p = or_false (is_in (key_of x) before) (has_twice_after (before ++ key_of x ∷ []) (item_keys xs)) e in
    (λ same. sorting.no_both (ap (λ (w : Key). is_in w before) (sym same) ∙ h) p.0, avoids b (before ++ key_of x ∷ []) xs (still_in b (key_of x) before h) p.1)

new_from : (x : Edn) (xs : Items) → Avoids (key_of x) xs → IsNew x xs
new_from x no_items h = tt
new_from x (item y ys) h = (λ e. h.0 (same_key x y e), new_from x ys h.1)

differ_after : (before : List Key) (xs : Items) → has_twice_after before (item_keys xs) ≡ false → Differ xs
differ_after before no_items e = tt
differ_after before (item x xs) e =
    let p = or_false (is_in (key_of x) before) (has_twice_after (before ++ key_of x ∷ []) (item_keys xs)) e in
    let after = before ++ key_of x ∷ [] in
    (new_from x xs (avoids (key_of x) after xs (now_in (key_of x) before) p.1), differ_after after xs p.1)

-- none of these values' keys is among those
abbrev Fresh : List Key → Items → Type 0
Fresh before no_items = Unit {0}
Fresh before (item x xs) = (is_in (key_of x) before ≡ false) × Fresh before xs

fresh_none : (xs : Items) → Fresh [] xs
fresh_none no_items = tt
fresh_none (item x xs) = (refl, fresh_none xs)

fresh_more : (before : List Key) (x : Edn) (ys : Items) → IsNew x ys → Fresh before ys → Fresh (before ++ key_of x ∷ []) ys
fresh_more before x no_items h f = tt
fresh_more before x (item y ys) h f =
    let other : is_eq (key_cmp (key_of x) (key_of y)) ≡ false =
    elim (is_eq (key_cmp (key_of x) (key_of y))) as (λ t. is_eq (key_cmp (key_of x) (key_of y)) ≡ t → t ≡ false) [
      | true ↦ λ e. absurd (h.0 (equal_from_key x y (same_is (key_of x) (key_of y) e)))
      | false ↦ λ e. refl
    ] refl in
    (is_in-push (key_of y) before (key_of x) ∙ rw (other, f.0) refl, fresh_more before x ys h.1 f.1)

none_after : (before : List Key) (xs : Items) → Fresh before xs → Differ xs → has_twice_after before (item_keys xs) ≡ false
none_after before no_items f h = refl
none_after before (item x xs) f h = rw f.0 (none_after (before ++ key_of x ∷ []) xs (fresh_more before x xs h.0 f.1) h.1)

keys_are : (ms : List (Edn × Edn)) → map (λ m. key_of m.0) ms ≡ item_keys (keys_of (members_of ms))
keys_are [] = refl
keys_are (m ∷ ms) = ap (λ (w : List Key). key_of m.0 ∷ w) (keys_are ms)

-- the keys differ where none stands twice
pub keys_differ : (ms : List (Edn × Edn)) → repeats_key ms ≡ false → KeysDiffer (members_of ms)
unfolding repeats_key
keys_differ ms e = differ_after [] (keys_of (members_of ms)) (ap (has_twice_after []) (sym (keys_are ms)) ∙ e)

-- none stands twice where the keys differ
pub no_key_twice : (ms : List (Edn × Edn)) → KeysDiffer (members_of ms) → repeats_key ms ≡ false
unfolding repeats_key
no_key_twice ms h = ap (has_twice_after []) (keys_are ms) ∙ none_after [] (keys_of (members_of ms)) (fresh_none (keys_of (members_of ms))) h

-- the same of a set's elements
pub elements_differ : (xs : List Edn) → repeats_element xs ≡ false → Differ (items_of xs)
unfolding repeats_element
elements_differ xs e = differ_after [] (items_of xs) e

pub no_element_twice : (xs : List Edn) → Differ (items_of xs) → repeats_element xs ≡ false
unfolding repeats_element
no_element_twice xs h = none_after [] (items_of xs) (fresh_none (items_of xs)) h
