-- EDN values, as contracts see them (EDN's format description, "Built-in elements").
-- A text is the list of its UTF-8 bytes, a character its code point.
use Rattle.std.specs.Prelude.{ℕ, suc, ◌+◌, Bool, true, false, ℤ, List, [], ◌∷◌, find, Option, Some}
use Rattle.std.specs.Prelude.{None, option_map}
use Rattle.std.specs.Str.{bytes_eq}

mutual
  pub data Edn : Type 0 where
    nil : Edn
    boolean : Bool → Edn
    int : ℤ → Edn
    char : ℕ → Edn
    str : List ℕ → Edn
    keyword : List ℕ → Edn
    symbol : List ℕ → Edn
    list : Items → Edn
    vector : Items → Edn
    mapping : Members → Edn
    set : Items → Edn
    tagged : List ℕ → Edn → Edn

  -- a list of values
  pub data Items : Type 0 where
    no_items : Items
    item : Edn → Items → Items

  -- a list of keys with their values, in the order written
  pub data Members : Type 0 where
    no_members : Members
    member : Edn → Edn → Members → Members

abbrev pub items_of : List Edn → Items
items_of [] = no_items
items_of (x ∷ xs) = item x (items_of xs)

abbrev pub members_of : List (Edn × Edn) → Members
members_of [] = no_members
members_of (m ∷ ms) = member m.0 m.1 (members_of ms)

-- how large a value is, by which a proof goes down it: one for each collection, each tag and each
-- thing in one
abbrev mutual
  pub size_of : Edn → ℕ
  size_of nil = 0
  size_of (boolean b) = 0
  size_of (int z) = 0
  size_of (char c) = 0
  size_of (str s) = 0
  size_of (keyword s) = 0
  size_of (symbol s) = 0
  size_of (list xs) = suc (size_items xs)
  size_of (vector xs) = suc (size_items xs)
  size_of (mapping ms) = suc (size_members ms)
  size_of (set xs) = suc (size_items xs)
  size_of (tagged tag x) = suc (size_of x)

  pub size_items : Items → ℕ
  size_items no_items = 0
  size_items (item x xs) = suc (size_of x + size_items xs)

  pub size_members : Members → ℕ
  size_members no_members = 0
  size_members (member k v ms) = suc (size_of k + size_of v + size_members ms)

abbrev pub size_list : List Edn → ℕ
size_list xs = size_items (items_of xs)

abbrev pub size_pairs : List (Edn × Edn) → ℕ
size_pairs xs = size_members (members_of xs)

-- the values of a list of values
abbrev pub list_of : Items → List Edn
list_of no_items = []
list_of (item x xs) = x ∷ list_of xs

-- the elements of a sequence: of a list or a vector, and of nothing else
abbrev pub elements_of : Edn → Option (List Edn)
elements_of (list xs) = Some (list_of xs)
elements_of (vector xs) = Some (list_of xs)
elements_of _ = None

-- the keyword of this name, without its colon
abbrev pub is_keyword : List ℕ → Edn → Bool
is_keyword name (keyword text) = bytes_eq text name
is_keyword name _ = false

abbrev pub is_nil : Edn → Bool
is_nil nil = true
is_nil _ = false

abbrev pub is_integer : Edn → Bool
is_integer (int z) = true
is_integer _ = false

-- the integer that a value is
abbrev pub integer_of : Edn → Option ℤ
integer_of (int z) = Some z
integer_of _ = None

-- the pairs of a map, as a list
abbrev pub pairs_in : Members → List (Edn × Edn)
pairs_in no_members = []
pairs_in (member key value ms) = (key, value) ∷ pairs_in ms

-- the value under a keyword: that of the first pair with it
abbrev pub value_under : List ℕ → List (Edn × Edn) → Option Edn
value_under name pairs = option_map (λ pair. pair.1) (find (λ pair. is_keyword name pair.0) pairs)

-- the pairs of a value that is a map
abbrev pub map_pairs : Edn → Option (List (Edn × Edn))
map_pairs (mapping ms) = Some (pairs_in ms)
map_pairs _ = None

-- a value without the tags around it
abbrev pub untagged_value : Edn → Edn
untagged_value (tagged tag value) = untagged_value value
untagged_value value = value

-- nothing is in the list
abbrev pub is_empty : {A : Type 0} → List A → Bool
is_empty [] = true
is_empty (x ∷ xs) = false
