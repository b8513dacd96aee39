-- The normal form of a value is equal to it, and is in normal form; what is in normal form can be printed.
use Rattle.std.proofs.Common.{◌≡◌, ℕ, ◌-◌, ◌<◌, Bool, true, false, ◌&&◌, List, [], ◌∷◌, ◌++◌, refl, sym, ap, ◌∙◌, arith}
use Rattle.std.specs.Prelude.{nat_lt, ◌^◌, ℤ, pos, negsuc, FitsSigned}
use Rattle.std.specs.Int.{w64}
use Rattle.std.specs.declared.cmp.Ordering.{Ordering}
use Rattle.std.specs.declared.cmp.Ordering.TheVariants.{Less, Equal, Greater}
use Rattle.std.specs.Ordering.{bool_cmp, ordering_then, is_lt}
use Rattle.std.specs.List.Sorted.{ties}
use Rattle.std.proofs.lemmas.Cmp.{tied_itself}
use Rattle.std.proofs.lemmas.Map.Lookups.{exact_unsigned, exact_signed, exact_bytes}
use Rattle.std.proofs.lemmas.Grind.{common_steps}
use Rattle.jh_edn.specs.declared.key.KeyMark.TheVariants as mark
use Rattle.jh_edn.specs.Edn.{Edn, nil, boolean, int, char, str, keyword, symbol, list, vector, mapping, set, tagged, Items, no_items, item, items_of, Members, no_members, member, members_of}
use Rattle.jh_edn.specs.Equality.{Equals, IsNew, Differ, keys_of, KeysDiffer}
use Rattle.jh_edn.specs.Order.{in_order, text_cmp, edn_cmp, items_cmp, members_cmp, is_below, has_key_below}
use Rattle.jh_edn.specs.Key.{bare_part, text_part, key_cmp, is_key_below, marked_keys, key_of, item_keys, pair_keys}
use Rattle.jh_edn.specs.Normal.{normal, normal_list, normal_pairs, ascends, is_normal_within, are_normal_within, are_normal_pairs_within}
use Rattle.jh_edn.specs.Printable.{IsPrintable, ArePrintable, ArePrintablePairs}
use Rattle.jh_edn.specs.Spelling.{is_tag}
use Rattle.jh_edn.specs.Reading.{magnitude}
use Rattle.jh_edn.proofs.TiedLemmas.{tied_equal}
use Rattle.jh_edn.proofs.NumberLemmas.{fits_from}
use Rattle.jh_edn.proofs.SortLemmas as sorting
use Rattle.jh_edn.proofs.SortLemmas.{both}
use Rattle.jh_edn.proofs.KeyOrderLemmas.{key_order, key_total, then_equal, tie_equal}
use Rattle.jh_edn.proofs.KeyLemmas.{Key, count, one, sorted, same_order, same_key, equal_from_key}
use Rattle.jh_edn.proofs.OrderLemmas.{parts, item_parts, pair_parts, parts_first, by_parts, edn_total, below_order, key_below_order}

-- ---- the normal form has the key of its value

items_count : (z : Key) (xs : List Edn) → count z (item_keys (items_of (in_order is_below xs))) ≡ count z (item_keys (items_of xs))
items_count z = sorting.in_order_total is_below (λ x. one z (key_of x)) (λ xs. count z (item_keys (items_of xs))) (λ x xs. refl)

pairs_count : (z : Key) (ms : List (Edn × Edn)) → count z (pair_keys (members_of (in_order has_key_below ms))) ≡ count z (pair_keys (members_of ms))
pairs_count z = sorting.in_order_total has_key_below (λ m. one z (key_of m.0 ++ key_of m.1)) (λ ms. count z (pair_keys (members_of ms))) (λ m ms. refl)

mutual
  pub normal_key : (x : Edn) → key_of (normal x) ≡ key_of x
  normal_key nil = refl
  normal_key (boolean b) = refl
  normal_key (int z) = refl
  normal_key (char c) = refl
  normal_key (str s) = refl
  normal_key (keyword s) = refl
  normal_key (symbol s) = refl
  normal_key (list xs) = ap (λ w. bare_part mark.Sequence ∷ marked_keys w) (list_keys xs)
  normal_key (vector xs) = ap (λ w. bare_part mark.Sequence ∷ marked_keys w) (list_keys xs)
  normal_key (mapping ms) =
      ap (λ w. bare_part mark.Map ∷ marked_keys w)
      (same_order (pair_keys (members_of (in_order has_key_below (normal_pairs ms)))) (pair_keys ms)
      (λ z. pairs_count z (normal_pairs ms) ∙ ap (count z) (pairs_keys ms)))
  normal_key (set xs) =
      ap (λ w. bare_part mark.Set ∷ marked_keys w)
      (same_order (item_keys (items_of (in_order is_below (normal_list xs)))) (item_keys xs)
      (λ z. items_count z (normal_list xs) ∙ ap (count z) (list_keys xs)))
  normal_key (tagged tag x) = ap (λ w. text_part mark.Tagged tag ∷ w) (normal_key x)

  list_keys : (xs : Items) → item_keys (items_of (normal_list xs)) ≡ item_keys xs
  list_keys no_items = refl
  list_keys (item x xs) = λ i. normal_key x i ∷ list_keys xs i

  pairs_keys : (ms : Members) → pair_keys (members_of (normal_pairs ms)) ≡ pair_keys ms
  pairs_keys no_members = refl
  pairs_keys (member k v ms) = λ i. (normal_key k i ++ normal_key v i) ∷ pairs_keys ms i

-- the normal form is equal to its value
pub keeps : (x : Edn) → Equals x (normal x)
keeps x = equal_from_key x (normal x) (sym (normal_key x))

-- ---- Booleans that compare as equal are equal

bool_exact : (b c : Bool) → bool_cmp b c ≡ Equal → b ≡ c
bool_exact true true h = refl
bool_exact true false h = absurd cc
bool_exact false true h = absurd cc
bool_exact false false h = refl

-- ---- the normal form is in normal form

-- values that are not equal do not tie once they are in normal form
apart : (x y : Edn) → (Equals x y → ⊥) → ties is_below (normal x) (normal y) ≡ false
apart x y h =
    elim (ties is_below (normal x) (normal y)) as (λ b. ties is_below (normal x) (normal y) ≡ b → b ≡ false) [
      | true ↦ λ e.
          absurd
          (let alike = tied_equal (normal x) (normal y) (tie_equal (edn_cmp (normal x) (normal y)) (edn_cmp (normal y) (normal x)) (edn_total.antisymm (normal x) (normal y)) e) in
          h (equal_from_key x y (sym (normal_key x) ∙ same_key (normal x) (normal y) alike ∙ normal_key y)))
      | false ↦ λ e. refl
    ] refl

unlike_new : (x : Edn) (xs : Items) → IsNew x xs → sorting.Each is_below below_order (λ y. ties is_below (normal x) y ≡ false) (normal_list xs)
unlike_new x no_items h = tt
unlike_new x (item y ys) h = (apart x y h.0, unlike_new x ys h.1)

unlike : (xs : Items) → Differ xs → sorting.Unlike is_below below_order (normal_list xs)
unlike no_items h = tt
unlike (item x xs) h = (unlike_new x xs h.0, unlike xs h.1)

unlike_new_key : (k v : Edn) (ms : Members) → IsNew k (keys_of ms) → sorting.Each has_key_below key_below_order (λ m. ties has_key_below (normal k, normal v) m ≡ false) (normal_pairs ms)
unlike_new_key k v no_members h = tt
unlike_new_key k v (member l w ms) h = (apart k l h.0, unlike_new_key k v ms h.1)

unlike_keys : (ms : Members) → KeysDiffer ms → sorting.Unlike has_key_below key_below_order (normal_pairs ms)
unlike_keys no_members h = tt
unlike_keys (member k v ms) h = (unlike_new_key k v ms h.0, unlike_keys ms h.1)

-- what ascends and has no two that tie ascends strictly
strict : (xs : List Edn) → sorting.Ascends is_below below_order xs → sorting.Unlike is_below below_order xs → ascends (items_of xs) ≡ true
strict [] a u = refl
strict (x ∷ []) a u = refl
strict (x ∷ y ∷ ys) a u = rw (sorting.strictly is_below below_order x y a.0.0 u.0.0) (strict (y ∷ ys) a.1 u.1)

strict_keys : (ms : List (Edn × Edn)) → sorting.Ascends has_key_below key_below_order ms → sorting.Unlike has_key_below key_below_order ms → ascends (keys_of (members_of ms)) ≡ true
strict_keys [] a u = refl
strict_keys (m ∷ []) a u = refl
strict_keys (m ∷ n ∷ ms) a u = rw (sorting.strictly has_key_below key_below_order m n a.0.0 u.0.0) (strict_keys (n ∷ ms) a.1 u.1)

-- each of a list is, where each of the list in order is
are_each : (depth : ℕ) (xs : List Edn) → sorting.Each is_below below_order (λ x. is_normal_within depth x ≡ true) xs → are_normal_within depth (items_of xs) ≡ true
are_each depth [] h = refl
are_each depth (x ∷ xs) h = rw h.0 (are_each depth xs h.1)

pairs_each : (depth : ℕ) (ms : List (Edn × Edn)) → sorting.Each has_key_below key_below_order (λ m. (is_normal_within depth m.0 ≡ true) × (is_normal_within depth m.1 ≡ true)) ms → are_normal_pairs_within depth (members_of ms) ≡ true
pairs_each depth [] h = refl
pairs_each depth (m ∷ ms) h = rw (h.0.0, h.0.1) (pairs_each depth ms h.1)

is_open : (depth : ℕ) → 0 < depth → nat_lt 0 depth ≡ true
is_open depth h = grind (arith, common_steps)

in_range : (z : ℤ) → FitsSigned w64 z → nat_lt (magnitude z) (2 ^ 63) ≡ true
in_range (pos n) h = let less : n < 2 ^ 63 = h.sfits in grind (arith, common_steps)
in_range (negsuc n) h = let less : n < 2 ^ 63 = h.sfits in grind (arith, common_steps)

mutual
  pub made_normal : (depth : ℕ) (x : Edn) → IsPrintable depth x → is_normal_within depth (normal x) ≡ true
  made_normal depth nil h = refl
  made_normal depth (boolean b) h = refl
  made_normal depth (int z) h = in_range z h
  made_normal depth (char c) h = h
  made_normal depth (str s) h = refl
  made_normal depth (keyword s) h = h
  made_normal depth (symbol s) h = h
  made_normal depth (list xs) h = rw (is_open depth h.0) (are_each (depth - 1) (normal_list xs) (each_normal (depth - 1) xs h.1))
  made_normal depth (vector xs) h = rw (is_open depth h.0) (are_each (depth - 1) (normal_list xs) (each_normal (depth - 1) xs h.1))
  made_normal depth (mapping ms) h =
      let ps = in_order has_key_below (normal_pairs ms) in
      let each = pairs_each (depth - 1) ps (sorting.in_order_each has_key_below key_below_order (λ m. (is_normal_within (depth - 1) m.0 ≡ true) × (is_normal_within (depth - 1) m.1 ≡ true)) (normal_pairs ms) (each_pair_normal (depth - 1) ms h.1)) in
      let up = strict_keys ps (sorting.in_order_ascends has_key_below key_below_order (normal_pairs ms)) (sorting.in_order_unlike has_key_below key_below_order (normal_pairs ms) (unlike_keys ms h.2)) in
      rw (is_open depth h.0, each) up
  made_normal depth (set xs) h =
      let ys = in_order is_below (normal_list xs) in
      let each = are_each (depth - 1) ys (sorting.in_order_each is_below below_order (λ x. is_normal_within (depth - 1) x ≡ true) (normal_list xs) (each_normal (depth - 1) xs h.1)) in
      let up = strict ys (sorting.in_order_ascends is_below below_order (normal_list xs)) (sorting.in_order_unlike is_below below_order (normal_list xs) (unlike xs h.2)) in
      rw (is_open depth h.0, each) up
  made_normal depth (tagged tag x) h = rw (is_open depth h.0, h.1) (made_normal (depth - 1) x h.2)

  each_normal : (depth : ℕ) (xs : Items) → ArePrintable depth xs → sorting.Each is_below below_order (λ x. is_normal_within depth x ≡ true) (normal_list xs)
  each_normal depth no_items h = tt
  each_normal depth (item x xs) h = (made_normal depth x h.0, each_normal depth xs h.1)

  each_pair_normal : (depth : ℕ) (ms : Members) → ArePrintablePairs depth ms → sorting.Each has_key_below key_below_order (λ m. (is_normal_within depth m.0 ≡ true) × (is_normal_within depth m.1 ≡ true)) (normal_pairs ms)
  each_pair_normal depth no_members h = tt
  each_pair_normal depth (member k v ms) h = ((made_normal depth k h.0, made_normal depth v h.1), each_pair_normal depth ms h.2)

-- ---- what is in normal form can be printed

abbrev AllAbove : Edn → Items → Type 0
AllAbove k no_items = Unit {0}
AllAbove k (item l xs) = (edn_cmp k l ≡ Less) × AllAbove k xs

less_is : (o : Ordering) → is_lt o ≡ true → o ≡ Less
less_is Less h = refl
less_is Equal h = absurd cc
less_is Greater h = absurd cc

raised : (k l : Edn) (xs : Items) → edn_cmp k l ≡ Less → AllAbove l xs → AllAbove k xs
raised k l no_items less h = tt
raised k l (item y ys) less h = (edn_total.trans k l y less h.0, raised k l ys less h.1)

all_above : (k : Edn) (xs : Items) → ascends (item k xs) ≡ true → AllAbove k xs
all_above k no_items h = tt
all_above k (item l xs) h =
    let p = both (is_below k l) (ascends (item l xs)) h in
    let less = less_is (edn_cmp k l) p.0 in
    (less, raised k l xs less (all_above l xs p.1))

ascends_tail : (k : Edn) (xs : Items) → ascends (item k xs) ≡ true → ascends xs ≡ true
ascends_tail k no_items h = refl
ascends_tail k (item l xs) h = (both (is_below k l) (ascends (item l xs)) h).1

-- a part that begins with what is below comes first
first_below : (k l : Edn) (r s : Key) → edn_cmp k l ≡ Less → is_key_below (parts l ++ s) (parts k ++ r) ≡ false
first_below k l r s h = key_order.one_way (parts k ++ r) (parts l ++ s) (ap is_lt (parts_first k l r s) ∙ rw h refl)

below_pairs : (k v : Edn) (ms : Members) → AllAbove k (keys_of ms) → sorting.Below is_key_below key_order (parts k ++ parts v) (pair_parts ms)
below_pairs k v no_members h = tt
below_pairs k v (member l w ms) h = (first_below k l (parts v) (parts w) h.0, below_pairs k v ms h.1)

below_items : (x : Edn) (xs : Items) → AllAbove x xs → sorting.Below is_key_below key_order (parts x) (item_parts xs)
below_items x no_items h = tt
below_items x (item y ys) h =
    (key_order.one_way (parts x) (parts y) (ap is_lt (sym (by_parts x y)) ∙ rw h.0 refl), below_items x ys h.1)

pairs_ascend : (ms : Members) → ascends (keys_of ms) ≡ true → sorting.Ascends is_key_below key_order (pair_parts ms)
pairs_ascend no_members h = tt
pairs_ascend (member k v ms) h = (below_pairs k v ms (all_above k (keys_of ms) h), pairs_ascend ms (ascends_tail k (keys_of ms) h))

items_ascend : (xs : Items) → ascends xs ≡ true → sorting.Ascends is_key_below key_order (item_parts xs)
items_ascend no_items h = tt
items_ascend (item x xs) h = (below_items x xs (all_above x xs h), items_ascend xs (ascends_tail x xs h))

mutual
  -- the key of what is in normal form is its parts as they stand
  normal_parts : (depth : ℕ) (x : Edn) → is_normal_within depth x ≡ true → key_of x ≡ parts x
  normal_parts depth nil h = refl
  normal_parts depth (boolean b) h = refl
  normal_parts depth (int z) h = refl
  normal_parts depth (char c) h = refl
  normal_parts depth (str s) h = refl
  normal_parts depth (keyword s) h = refl
  normal_parts depth (symbol s) h = refl
  normal_parts depth (list xs) h = absurd cc
  normal_parts depth (vector xs) h = ap (λ w. bare_part mark.Sequence ∷ marked_keys w) (items_parts (depth - 1) xs (both (nat_lt 0 depth) (are_normal_within (depth - 1) xs) h).1)
  normal_parts depth (mapping ms) h =
      let p = both (nat_lt 0 depth) (are_normal_pairs_within (depth - 1) ms && ascends (keys_of ms)) h in
      let q = both (are_normal_pairs_within (depth - 1) ms) (ascends (keys_of ms)) p.1 in
      ap (λ w. bare_part mark.Map ∷ marked_keys w) (ap sorted (pairs_parts (depth - 1) ms q.0) ∙ sorting.in_order_is is_key_below key_order (pair_parts ms) (pairs_ascend ms q.1))
  normal_parts depth (set xs) h =
      let p = both (nat_lt 0 depth) (are_normal_within (depth - 1) xs && ascends xs) h in
      let q = both (are_normal_within (depth - 1) xs) (ascends xs) p.1 in
      ap (λ w. bare_part mark.Set ∷ marked_keys w) (ap sorted (items_parts (depth - 1) xs q.0) ∙ sorting.in_order_is is_key_below key_order (item_parts xs) (items_ascend xs q.1))
  normal_parts depth (tagged tag x) h =
      let p = both (nat_lt 0 depth) (is_tag tag && is_normal_within (depth - 1) x) h in
      ap (λ w. text_part mark.Tagged tag ∷ w) (normal_parts (depth - 1) x (both (is_tag tag) (is_normal_within (depth - 1) x) p.1).1)

  items_parts : (depth : ℕ) (xs : Items) → are_normal_within depth xs ≡ true → item_keys xs ≡ item_parts xs
  items_parts depth no_items h = refl
  items_parts depth (item x xs) h =
      let p = both (is_normal_within depth x) (are_normal_within depth xs) h in
      λ i. normal_parts depth x p.0 i ∷ items_parts depth xs p.1 i

  pairs_parts : (depth : ℕ) (ms : Members) → are_normal_pairs_within depth ms ≡ true → pair_keys ms ≡ pair_parts ms
  pairs_parts depth no_members h = refl
  pairs_parts depth (member k v ms) h =
      let p = both (is_normal_within depth k) (is_normal_within depth v && are_normal_pairs_within depth ms) h in
      let q = both (is_normal_within depth v) (are_normal_pairs_within depth ms) p.1 in
      λ i. (normal_parts depth k p.0 i ++ normal_parts depth v q.0 i) ∷ pairs_parts depth ms q.1 i

-- of two in normal form, one below the other is not equal to it
not_equal : (depth : ℕ) (x y : Edn) → is_normal_within depth x ≡ true → is_normal_within depth y ≡ true → edn_cmp x y ≡ Less → Equals x y → ⊥
not_equal depth x y h k less e =
    let same : parts x ≡ parts y = sym (normal_parts depth x h) ∙ same_key x y e ∙ normal_parts depth y k in
    let bad : Less ≡ Equal = sym less ∙ by_parts x y ∙ ap (λ w. key_cmp w (parts y)) same ∙ tied_itself key_total (parts y) in
    cc

mutual
  -- two in normal form that compare as equal are one
  pub exact : (depth : ℕ) (x y : Edn) → is_normal_within depth x ≡ true → is_normal_within depth y ≡ true → edn_cmp x y ≡ Equal → x ≡ y
  exact depth nil nil h k e = refl
  exact depth (boolean b) (boolean c) h k e = ap boolean (bool_exact b c e)
  exact depth (int z) (int w) h k e = ap int (exact_signed z w e)
  exact depth (char c) (char d) h k e = ap char (exact_unsigned c d e)
  exact depth (str s) (str t) h k e = ap str (exact_bytes s t e)
  exact depth (keyword s) (keyword t) h k e = ap keyword (exact_bytes s t e)
  exact depth (symbol s) (symbol t) h k e = ap symbol (exact_bytes s t e)
  exact depth (list xs) (list ys) h k e = absurd cc
  exact depth (list xs) (vector ys) h k e = absurd cc
  exact depth (vector xs) (list ys) h k e = absurd cc
  exact depth (vector xs) (vector ys) h k e =
      ap vector (exact_items (depth - 1) xs ys (both (nat_lt 0 depth) (are_normal_within (depth - 1) xs) h).1 (both (nat_lt 0 depth) (are_normal_within (depth - 1) ys) k).1 e)
  exact depth (mapping ms) (mapping ns) h k e =
      let p = both (nat_lt 0 depth) (are_normal_pairs_within (depth - 1) ms && ascends (keys_of ms)) h in
      let q = both (nat_lt 0 depth) (are_normal_pairs_within (depth - 1) ns && ascends (keys_of ns)) k in
      ap mapping (exact_members (depth - 1) ms ns (both (are_normal_pairs_within (depth - 1) ms) (ascends (keys_of ms)) p.1).0 (both (are_normal_pairs_within (depth - 1) ns) (ascends (keys_of ns)) q.1).0 e)
  exact depth (set xs) (set ys) h k e =
      let p = both (nat_lt 0 depth) (are_normal_within (depth - 1) xs && ascends xs) h in
      let q = both (nat_lt 0 depth) (are_normal_within (depth - 1) ys && ascends ys) k in
      ap set (exact_items (depth - 1) xs ys (both (are_normal_within (depth - 1) xs) (ascends xs) p.1).0 (both (are_normal_within (depth - 1) ys) (ascends ys) q.1).0 e)
  exact depth (tagged s x) (tagged t y) h k e =
      let p = both (nat_lt 0 depth) (is_tag s && is_normal_within (depth - 1) x) h in
      let q = both (nat_lt 0 depth) (is_tag t && is_normal_within (depth - 1) y) k in
      let both_equal = then_equal (text_cmp s t) (edn_cmp x y) e in
      let tags : s ≡ t = exact_bytes s t both_equal.0 in
      let inner : x ≡ y =
      exact (depth - 1) x y (both (is_tag s) (is_normal_within (depth - 1) x) p.1).1 (both (is_tag t) (is_normal_within (depth - 1) y) q.1).1 both_equal.1 in
      λ i. tagged (tags i) (inner i)
  exact depth x y h k e = absurd cc

  exact_items : (depth : ℕ) (xs ys : Items) → are_normal_within depth xs ≡ true → are_normal_within depth ys ≡ true → items_cmp xs ys ≡ Equal → xs ≡ ys
  exact_items depth no_items no_items h k e = refl
  exact_items depth no_items (item y ys) h k e = absurd cc
  exact_items depth (item x xs) no_items h k e = absurd cc
  exact_items depth (item x xs) (item y ys) h k e =
      let p = both (is_normal_within depth x) (are_normal_within depth xs) h in
      let q = both (is_normal_within depth y) (are_normal_within depth ys) k in
      let equal = then_equal (edn_cmp x y) (items_cmp xs ys) e in
      let first : x ≡ y = exact depth x y p.0 q.0 equal.0 in
      let others : xs ≡ ys = exact_items depth xs ys p.1 q.1 equal.1 in
      λ i. item (first i) (others i)

  exact_members : (depth : ℕ) (ms ns : Members) → are_normal_pairs_within depth ms ≡ true → are_normal_pairs_within depth ns ≡ true → members_cmp ms ns ≡ Equal → ms ≡ ns
  exact_members depth no_members no_members h k e = refl
  exact_members depth no_members (member l w ns) h k e = absurd cc
  exact_members depth (member x v ms) no_members h k e = absurd cc
  exact_members depth (member x v ms) (member y w ns) h k e =
      let p = both (is_normal_within depth x) (is_normal_within depth v && are_normal_pairs_within depth ms) h in
      let q = both (is_normal_within depth y) (is_normal_within depth w && are_normal_pairs_within depth ns) k in
      let pv = both (is_normal_within depth v) (are_normal_pairs_within depth ms) p.1 in
      let qw = both (is_normal_within depth w) (are_normal_pairs_within depth ns) q.1 in
      let equal = then_equal (edn_cmp x y) (ordering_then (edn_cmp v w) (members_cmp ms ns)) e in
      let behind = then_equal (edn_cmp v w) (members_cmp ms ns) equal.1 in
      let key : x ≡ y = exact depth x y p.0 q.0 equal.0 in
      let value : v ≡ w = exact depth v w pv.0 qw.0 behind.0 in
      let others : ms ≡ ns = exact_members depth ms ns pv.1 qw.1 behind.1 in
      λ i. member (key i) (value i) (others i)

new_above : (depth : ℕ) (x : Edn) (xs : Items) → is_normal_within depth x ≡ true → are_normal_within depth xs ≡ true → AllAbove x xs → IsNew x xs
new_above depth x no_items h k a = tt
new_above depth x (item y ys) h k a =
    let p = both (is_normal_within depth y) (are_normal_within depth ys) k in
    (not_equal depth x y h p.0 a.0, new_above depth x ys h p.1 a.1)

differ : (depth : ℕ) (xs : Items) → are_normal_within depth xs ≡ true → ascends xs ≡ true → Differ xs
differ depth no_items h a = tt
differ depth (item x xs) h a =
    let p = both (is_normal_within depth x) (are_normal_within depth xs) h in
    (new_above depth x xs p.0 p.1 (all_above x xs a), differ depth xs p.1 (ascends_tail x xs a))

keys_normal : (depth : ℕ) (ms : Members) → are_normal_pairs_within depth ms ≡ true → are_normal_within depth (keys_of ms) ≡ true
keys_normal depth no_members h = refl
keys_normal depth (member k v ms) h =
    let p = both (is_normal_within depth k) (is_normal_within depth v && are_normal_pairs_within depth ms) h in
    rw p.0 (keys_normal depth ms (both (is_normal_within depth v) (are_normal_pairs_within depth ms) p.1).1)

opened : (depth : ℕ) → nat_lt 0 depth ≡ true → 0 < depth
opened depth h = grind (arith, common_steps)

mutual
  pub can_print : (depth : ℕ) (x : Edn) → is_normal_within depth x ≡ true → IsPrintable depth x
  can_print depth nil h = tt
  can_print depth (boolean b) h = tt
  can_print depth (int z) h = fits_from z h
  can_print depth (char c) h = h
  can_print depth (str s) h = tt
  can_print depth (keyword s) h = h
  can_print depth (symbol s) h = h
  can_print depth (list xs) h = absurd cc
  can_print depth (vector xs) h =
      let p = both (nat_lt 0 depth) (are_normal_within (depth - 1) xs) h in
      (opened depth p.0, can_print_each (depth - 1) xs p.1)
  can_print depth (mapping ms) h =
      let p = both (nat_lt 0 depth) (are_normal_pairs_within (depth - 1) ms && ascends (keys_of ms)) h in
      let q = both (are_normal_pairs_within (depth - 1) ms) (ascends (keys_of ms)) p.1 in
      (opened depth p.0, can_print_pairs (depth - 1) ms q.0, differ (depth - 1) (keys_of ms) (keys_normal (depth - 1) ms q.0) q.1)
  can_print depth (set xs) h =
      let p = both (nat_lt 0 depth) (are_normal_within (depth - 1) xs && ascends xs) h in
      let q = both (are_normal_within (depth - 1) xs) (ascends xs) p.1 in
      (opened depth p.0, can_print_each (depth - 1) xs q.0, differ (depth - 1) xs q.0 q.1)
  can_print depth (tagged tag x) h =
      let p = both (nat_lt 0 depth) (is_tag tag && is_normal_within (depth - 1) x) h in
      let q = both (is_tag tag) (is_normal_within (depth - 1) x) p.1 in
      (opened depth p.0, q.0, can_print (depth - 1) x q.1)

  can_print_each : (depth : ℕ) (xs : Items) → are_normal_within depth xs ≡ true → ArePrintable depth xs
  can_print_each depth no_items h = tt
  can_print_each depth (item x xs) h =
      let p = both (is_normal_within depth x) (are_normal_within depth xs) h in
      (can_print depth x p.0, can_print_each depth xs p.1)

  can_print_pairs : (depth : ℕ) (ms : Members) → are_normal_pairs_within depth ms ≡ true → ArePrintablePairs depth ms
  can_print_pairs depth no_members h = tt
  can_print_pairs depth (member k v ms) h =
      let p = both (is_normal_within depth k) (is_normal_within depth v && are_normal_pairs_within depth ms) h in
      let q = both (is_normal_within depth v) (are_normal_pairs_within depth ms) p.1 in
      (can_print depth k p.0, can_print depth v q.0, can_print_pairs depth ms q.1)

-- equal values that can be printed have one normal form
pub one_normal : (depth : ℕ) (x y : Edn) → IsPrintable depth x → IsPrintable depth y → Equals x y → normal x ≡ normal y
one_normal depth x y p q e =
    let h : is_normal_within depth (normal x) ≡ true = made_normal depth x p in
    let k : is_normal_within depth (normal y) ≡ true = made_normal depth y q in
    let keys : key_of (normal x) ≡ key_of (normal y) = normal_key x ∙ same_key x y e ∙ sym (normal_key y) in
    let same : parts (normal x) ≡ parts (normal y) = sym (normal_parts depth (normal x) h) ∙ keys ∙ normal_parts depth (normal y) k in
    exact depth (normal x) (normal y) h k (by_parts (normal x) (normal y) ∙ ap (λ w. key_cmp w (parts (normal y))) same ∙ tied_itself key_total (parts (normal y)))
