-- The order of values is an order: values compare as the lists of their parts do.
use Rattle.std.proofs.Common.{◌≡◌, ℕ, Bool, true, false, cond, List, [], ◌∷◌, ◌++◌, refl, sym, ap, subst, ◌∙◌, append_assoc, append-nil, arith}
use Rattle.std.specs.Prelude.{pos}
use Rattle.std.specs.declared.cmp.Ordering.{Ordering}
use Rattle.std.specs.declared.cmp.Ordering.TheVariants.{Less, Equal, Greater}
use Rattle.std.specs.Ordering.{nat_cmp, int_cmp, bool_cmp, ordering_then}
use Rattle.std.specs.Cmp.{IsTotalOrder, IsStrictWeakOrder}
use Rattle.std.proofs.lemmas.Cmp.{on_total}
use Rattle.std.proofs.lemmas.List.MinMax.{ranks_by}
use Rattle.std.proofs.lemmas.Grind.{common_steps}
use Rattle.jh_edn.specs.declared.key.KeyMark.TheVariants as mark
use Rattle.jh_edn.specs.Edn.{Edn, nil, boolean, int, char, str, keyword, symbol, list, vector, mapping, set, tagged, Items, no_items, item, Members, no_members, member}
use Rattle.jh_edn.specs.Order.{text_cmp, edn_cmp, items_cmp, members_cmp, is_below, has_key_below}
use Rattle.jh_edn.specs.Key.{KeyPart, bare_part, numbered_part, text_part, key_cmp, marked_keys}
use Rattle.jh_edn.proofs.KeyOrderLemmas.{key_total}

-- a value's parts, in the order in which it holds them
abbrev mutual
  pub parts : Edn → List KeyPart
  parts nil = bare_part mark.Nil ∷ []
  parts (boolean b) = numbered_part mark.Bool (pos (cond b 1 0)) ∷ []
  parts (int z) = numbered_part mark.Int z ∷ []
  parts (char c) = numbered_part mark.Char (pos c) ∷ []
  parts (str s) = text_part mark.Str s ∷ []
  parts (keyword s) = text_part mark.Keyword s ∷ []
  parts (symbol s) = text_part mark.Symbol s ∷ []
  parts (list xs) = bare_part mark.Sequence ∷ marked_keys (item_parts xs)
  parts (vector xs) = bare_part mark.Sequence ∷ marked_keys (item_parts xs)
  parts (mapping ms) = bare_part mark.Map ∷ marked_keys (pair_parts ms)
  parts (set xs) = bare_part mark.Set ∷ marked_keys (item_parts xs)
  parts (tagged tag x) = text_part mark.Tagged tag ∷ parts x

  pub item_parts : Items → List (List KeyPart)
  item_parts no_items = []
  item_parts (item x xs) = parts x ∷ item_parts xs

  pub pair_parts : Members → List (List KeyPart)
  pair_parts no_members = []
  pair_parts (member k v ms) = (parts k ++ parts v) ∷ pair_parts ms

then_assoc : (a b c : Ordering) → ordering_then (ordering_then a b) c ≡ ordering_then a (ordering_then b c)
then_assoc Less b c = refl
then_assoc Equal b c = refl
then_assoc Greater b c = refl

then_equal : (a : Ordering) → ordering_then a Equal ≡ a
then_equal Less = refl
then_equal Equal = refl
then_equal Greater = refl

bools : (b c : Bool) → int_cmp (pos (cond b 1 0)) (pos (cond c 1 0)) ≡ bool_cmp b c
bools true true = refl
bools true false = refl
bools false true = refl
bools false false = refl

numbers : (m n : ℕ) → int_cmp (pos m) (pos n) ≡ nat_cmp m n
numbers m n = grind (arith, common_steps)

-- one part, and what follows it
number_first : (a o : Ordering) → ordering_then (ordering_then a Equal) o ≡ ordering_then a o
number_first a o = ap (λ w. ordering_then w o) (then_equal a)

mutual
  -- the values decide, and then what follows them
  pub parts_first : (x y : Edn) (r s : List KeyPart) → key_cmp (parts x ++ r) (parts y ++ s) ≡ ordering_then (edn_cmp x y) (key_cmp r s)
  parts_first nil nil r s = refl
  parts_first (boolean b) (boolean c) r s = number_first (int_cmp (pos (cond b 1 0)) (pos (cond c 1 0))) (key_cmp r s) ∙ ap (λ w. ordering_then w (key_cmp r s)) (bools b c)
  parts_first (int z) (int w) r s = number_first (int_cmp z w) (key_cmp r s)
  parts_first (char c) (char d) r s = number_first (int_cmp (pos c) (pos d)) (key_cmp r s) ∙ ap (λ w. ordering_then w (key_cmp r s)) (numbers c d)
  parts_first (str a) (str b) r s = refl
  parts_first (keyword a) (keyword b) r s = refl
  parts_first (symbol a) (symbol b) r s = refl
  parts_first (list xs) (list ys) r s = items_first xs ys r s
  parts_first (list xs) (vector ys) r s = items_first xs ys r s
  parts_first (vector xs) (list ys) r s = items_first xs ys r s
  parts_first (vector xs) (vector ys) r s = items_first xs ys r s
  parts_first (mapping ms) (mapping ns) r s = members_first ms ns r s
  parts_first (set xs) (set ys) r s = items_first xs ys r s
  parts_first (tagged a x) (tagged b y) r s = ap (ordering_then (text_cmp a b)) (parts_first x y r s) ∙ sym (then_assoc (text_cmp a b) (edn_cmp x y) (key_cmp r s))
  parts_first x y r s = refl

  items_first : (xs ys : Items) (r s : List KeyPart) → key_cmp (marked_keys (item_parts xs) ++ r) (marked_keys (item_parts ys) ++ s) ≡ ordering_then (items_cmp xs ys) (key_cmp r s)
  items_first no_items no_items r s = refl
  items_first no_items (item y ys) r s = refl
  items_first (item x xs) no_items r s = refl
  items_first (item x xs) (item y ys) r s =
      let left = append_assoc (parts x) (marked_keys (item_parts xs)) r in
      let right = append_assoc (parts y) (marked_keys (item_parts ys)) s in
      (λ i. key_cmp (left i) (right i))
      ∙ parts_first x y (marked_keys (item_parts xs) ++ r) (marked_keys (item_parts ys) ++ s)
      ∙ ap (ordering_then (edn_cmp x y)) (items_first xs ys r s)
      ∙ sym (then_assoc (edn_cmp x y) (items_cmp xs ys) (key_cmp r s))

  members_first : (ms ns : Members) (r s : List KeyPart) → key_cmp (marked_keys (pair_parts ms) ++ r) (marked_keys (pair_parts ns) ++ s) ≡ ordering_then (members_cmp ms ns) (key_cmp r s)
  members_first no_members no_members r s = refl
  members_first no_members (member l w ns) r s = refl
  members_first (member k v ms) no_members r s = refl
  members_first (member k v ms) (member l w ns) r s =
      let left = append_assoc (parts k ++ parts v) (marked_keys (pair_parts ms)) r ∙ append_assoc (parts k) (parts v) (marked_keys (pair_parts ms) ++ r) in
      let right = append_assoc (parts l ++ parts w) (marked_keys (pair_parts ns)) s ∙ append_assoc (parts l) (parts w) (marked_keys (pair_parts ns) ++ s) in
      (λ i. key_cmp (left i) (right i))
      ∙ parts_first k l (parts v ++ (marked_keys (pair_parts ms) ++ r)) (parts w ++ (marked_keys (pair_parts ns) ++ s))
      ∙ ap (ordering_then (edn_cmp k l)) (parts_first v w (marked_keys (pair_parts ms) ++ r) (marked_keys (pair_parts ns) ++ s) ∙ ap (ordering_then (edn_cmp v w)) (members_first ms ns r s))
      ∙ sym (ap (λ o. ordering_then o (key_cmp r s)) refl ∙ then_assoc (edn_cmp k l) (ordering_then (edn_cmp v w) (members_cmp ms ns)) (key_cmp r s) ∙ ap (ordering_then (edn_cmp k l)) (then_assoc (edn_cmp v w) (members_cmp ms ns) (key_cmp r s)))

-- values compare as their parts
pub by_parts : (x y : Edn) → edn_cmp x y ≡ key_cmp (parts x) (parts y)
by_parts x y =
    sym (then_equal (edn_cmp x y)) ∙ sym (parts_first x y [] []) ∙ (λ i. key_cmp (append-nil (parts x) i) (append-nil (parts y) i))

abbrev parts_cmp : Edn → Edn → Ordering
parts_cmp x y = key_cmp (parts x) (parts y)

same_cmp : parts_cmp ≡ edn_cmp
same_cmp = λ i x y. sym (by_parts x y) i

pub edn_total : IsTotalOrder edn_cmp
edn_total = subst IsTotalOrder same_cmp (on_total parts key_total)

pub below_order : IsStrictWeakOrder is_below
below_order = ranks_by edn_total (λ (x : Edn). x)

pub key_below_order : IsStrictWeakOrder has_key_below
key_below_order = ranks_by edn_total (λ (m : Edn × Edn). m.0)
