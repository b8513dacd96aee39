-- Values that rank equal are equal.
use Rattle.std.proofs.Common.{◌≡◌, Bool, true, false, refl, sym, ap, inl, inr}
use Rattle.std.specs.Ordering.{bool_cmp}
use Rattle.std.specs.declared.cmp.Ordering.TheVariants.{Equal}
use Rattle.std.proofs.lemmas.Map.Lookups.{exact_unsigned, exact_signed, exact_bytes}
use Rattle.jh_edn.specs.Edn.{Edn, nil, boolean, int, char, str, keyword, symbol, list, vector, mapping, set, tagged, Items, no_items, item, Members, no_members, member}
use Rattle.jh_edn.specs.Equality.{Equals, AreEqualItems, AreEqualElements, AreEqualMembers}
use Rattle.jh_edn.specs.Order.{edn_cmp, items_cmp, members_cmp, text_cmp}
use Rattle.jh_edn.proofs.KeyOrderLemmas.{then_equal}

bools : (b c : Bool) → bool_cmp b c ≡ Equal → c ≡ b
bools true true h = refl
bools true false h = absurd cc
bools false true h = absurd cc
bools false false h = refl

mutual
  pub tied_equal : (x y : Edn) → edn_cmp x y ≡ Equal → Equals x y
  tied_equal nil nil h = refl
  tied_equal (boolean b) (boolean c) h = ap boolean (bools b c h)
  tied_equal (int z) (int w) h = ap int (sym (exact_signed z w h))
  tied_equal (char c) (char d) h = ap char (sym (exact_unsigned c d h))
  tied_equal (str s) (str t) h = ap str (sym (exact_bytes s t h))
  tied_equal (keyword s) (keyword t) h = ap keyword (sym (exact_bytes s t h))
  tied_equal (symbol s) (symbol t) h = ap symbol (sym (exact_bytes s t h))
  tied_equal (list xs) (list ys) h = (ys, inl refl, items_equal xs ys h)
  tied_equal (list xs) (vector ys) h = (ys, inr refl, items_equal xs ys h)
  tied_equal (vector xs) (list ys) h = (ys, inl refl, items_equal xs ys h)
  tied_equal (vector xs) (vector ys) h = (ys, inr refl, items_equal xs ys h)
  tied_equal (mapping ms) (mapping ns) h = (ns, refl, members_equal ms ns h)
  tied_equal (set xs) (set ys) h = (ys, refl, elements_equal xs ys h)
  tied_equal (tagged s x) (tagged t y) h =
      let p = then_equal (text_cmp s t) (edn_cmp x y) h in
      (y, ap (λ w. tagged w y) (sym (exact_bytes s t p.0)), tied_equal x y p.1)
  tied_equal x y h = absurd cc

  items_equal : (xs ys : Items) → items_cmp xs ys ≡ Equal → AreEqualItems xs ys
  items_equal no_items no_items h = refl
  items_equal no_items (item y ys) h = absurd cc
  items_equal (item x xs) no_items h = absurd cc
  items_equal (item x xs) (item y ys) h =
      let p = then_equal (edn_cmp x y) (items_cmp xs ys) h in
      (y, ys, refl, tied_equal x y p.0, items_equal xs ys p.1)

  elements_equal : (xs ys : Items) → items_cmp xs ys ≡ Equal → AreEqualElements xs ys
  elements_equal no_items no_items h = refl
  elements_equal no_items (item y ys) h = absurd cc
  elements_equal (item x xs) no_items h = absurd cc
  elements_equal (item x xs) (item y ys) h =
      let p = then_equal (edn_cmp x y) (items_cmp xs ys) h in
      (y, ys, inl (refl, refl), tied_equal x y p.0, elements_equal xs ys p.1)

  members_equal : (ms ns : Members) → members_cmp ms ns ≡ Equal → AreEqualMembers ms ns
  members_equal no_members no_members h = refl
  members_equal no_members (member l w ns) h = absurd cc
  members_equal (member k v ms) no_members h = absurd cc
  members_equal (member k v ms) (member l w ns) h =
      let p = then_equal (edn_cmp k l) _ h in
      let q = then_equal (edn_cmp v w) (members_cmp ms ns) p.1 in
      (l, w, ns, inl (refl, refl, refl), tied_equal k l p.0, tied_equal v w q.0, members_equal ms ns q.1)
