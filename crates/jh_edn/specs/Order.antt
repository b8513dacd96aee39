-- The order of values (this project's own): by kind, nil first and tagged values last, and then by
-- content. A list stands where a vector with its elements stands.
use Rattle.std.specs.Prelude.{ℕ, Bool, List, [], ◌∷◌, if◌then◌else◌}
use Rattle.std.specs.declared.cmp.Ordering.{Ordering}
use Rattle.std.specs.declared.cmp.Ordering.TheVariants.{Less, Equal, Greater}
use Rattle.std.specs.Ordering.{bool_cmp, nat_cmp, int_cmp, ordering_then, is_lt}
use Rattle.std.specs.Cmp.Lexicographic.{slice_cmp}
use Rattle.jh_edn.specs.Edn.{Edn, nil, boolean, int, char, str, keyword, symbol, list, vector}
use Rattle.jh_edn.specs.Edn.{mapping, set, tagged, Items, no_items, item, Members, no_members}
use Rattle.jh_edn.specs.Edn.{member}

-- put before the first that is not below it
abbrev pub put_in_order : {X : Type 0} → (X → X → Bool) → X → List X → List X
put_in_order lt x [] = x ∷ []
put_in_order lt x (y ∷ ys) = if lt y x then y ∷ put_in_order lt x ys else x ∷ y ∷ ys

-- in ascending order; those of which neither is below the other stay as they stood
abbrev pub in_order : {X : Type 0} → (X → X → Bool) → List X → List X
in_order lt [] = []
in_order lt (x ∷ xs) = put_in_order lt x (in_order lt xs)

-- where a kind stands among the kinds
abbrev pub kind_of : Edn → ℕ
kind_of nil = 0
kind_of (boolean b) = 1
kind_of (int z) = 2
kind_of (char c) = 3
kind_of (str s) = 4
kind_of (keyword s) = 5
kind_of (symbol s) = 6
kind_of (list xs) = 7
kind_of (vector xs) = 7
kind_of (mapping ms) = 8
kind_of (set xs) = 9
kind_of (tagged tag x) = 10

-- texts by their bytes
abbrev pub text_cmp : List ℕ → List ℕ → Ordering
text_cmp = slice_cmp nat_cmp

abbrev mutual
  pub edn_cmp : Edn → Edn → Ordering
  edn_cmp (boolean b) (boolean c) = bool_cmp b c
  edn_cmp (int z) (int w) = int_cmp z w
  edn_cmp (char c) (char d) = nat_cmp c d
  edn_cmp (str s) (str t) = text_cmp s t
  edn_cmp (keyword s) (keyword t) = text_cmp s t
  edn_cmp (symbol s) (symbol t) = text_cmp s t
  edn_cmp (list xs) (list ys) = items_cmp xs ys
  edn_cmp (list xs) (vector ys) = items_cmp xs ys
  edn_cmp (vector xs) (list ys) = items_cmp xs ys
  edn_cmp (vector xs) (vector ys) = items_cmp xs ys
  edn_cmp (mapping ms) (mapping ns) = members_cmp ms ns
  edn_cmp (set xs) (set ys) = items_cmp xs ys
  edn_cmp (tagged s x) (tagged t y) = ordering_then (text_cmp s t) (edn_cmp x y)
  edn_cmp x y = nat_cmp (kind_of x) (kind_of y)

  -- element by element, a prefix first
  pub items_cmp : Items → Items → Ordering
  items_cmp no_items no_items = Equal
  items_cmp no_items (item y ys) = Less
  items_cmp (item x xs) no_items = Greater
  items_cmp (item x xs) (item y ys) = ordering_then (edn_cmp x y) (items_cmp xs ys)

  -- pair by pair, the key before the value, a prefix first
  pub members_cmp : Members → Members → Ordering
  members_cmp no_members no_members = Equal
  members_cmp no_members (member l w ns) = Less
  members_cmp (member k v ms) no_members = Greater
  members_cmp (member k v ms) (member l w ns) =
      ordering_then (edn_cmp k l) (ordering_then (edn_cmp v w) (members_cmp ms ns))

-- the first is below the second
abbrev pub is_below : Edn → Edn → Bool
is_below x y = is_lt (edn_cmp x y)

-- the first pair's key is below the second's
abbrev pub has_key_below : Edn × Edn → Edn × Edn → Bool
has_key_below m n = is_below m.0 n.0
