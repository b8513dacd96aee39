-- When two EDN values are equal (EDN's format description, "Equality"): by what they hold, lists
-- and vectors element by element and a list also to a vector, maps and sets whatever the order,
-- tagged ones by tag and element.
use Rattle.std.specs.Prelude.{◌≡◌, ◌⊎◌}
use Rattle.jh_edn.specs.Edn.{Edn, nil, boolean, int, char, str, keyword, symbol, list, vector}
use Rattle.jh_edn.specs.Edn.{mapping, set, tagged, Items, no_items, item, Members, no_members}
use Rattle.jh_edn.specs.Edn.{member}

-- these are the elements of a list or a vector
abbrev pub IsSequence : Edn → Items → Type 0
IsSequence y ys = (y ≡ list ys) ⊎ (y ≡ vector ys)

-- the others are the elements without one that is that
abbrev pub PicksItem : Edn → Items → Items → Type 0
PicksItem x no_items others = ⊥
PicksItem x (item y ys) others =
    ((y ≡ x) × (others ≡ ys)) ⊎ ((rest : Items) × (others ≡ item y rest) × PicksItem x ys rest)

-- the others are the members without one pair of that key and value
abbrev pub Picks : Edn → Edn → Members → Members → Type 0
Picks key value no_members others = ⊥
Picks key value (member k v ms) others =
    ((k ≡ key) × (v ≡ value) × (others ≡ ms))
    ⊎ ((rest : Members) × (others ≡ member k v rest) × Picks key value ms rest)

abbrev mutual
  pub Equals : Edn → Edn → Type 0
  Equals nil y = y ≡ nil
  Equals (boolean b) y = y ≡ boolean b
  Equals (int z) y = y ≡ int z
  Equals (char c) y = y ≡ char c
  Equals (str s) y = y ≡ str s
  Equals (keyword s) y = y ≡ keyword s
  Equals (symbol s) y = y ≡ symbol s
  Equals (list xs) y = (ys : Items) × IsSequence y ys × AreEqualItems xs ys
  Equals (vector xs) y = (ys : Items) × IsSequence y ys × AreEqualItems xs ys
  Equals (mapping ms) y = (ns : Members) × (y ≡ mapping ns) × AreEqualMembers ms ns
  Equals (set xs) y = (ys : Items) × (y ≡ set ys) × AreEqualElements xs ys
  Equals (tagged tag x) y = (z : Edn) × (y ≡ tagged tag z) × Equals x z

  -- as many, equal one by one
  pub AreEqualItems : Items → Items → Type 0
  AreEqualItems no_items ys = ys ≡ no_items
  AreEqualItems (item x xs) ys =
      (y : Edn) × (rest : Items) × (ys ≡ item y rest) × Equals x y × AreEqualItems xs rest

  -- as many, equal one by one in some order
  pub AreEqualElements : Items → Items → Type 0
  AreEqualElements no_items ys = ys ≡ no_items
  AreEqualElements (item x xs) ys =
      (y : Edn) × (others : Items) × PicksItem y ys others × Equals x y × AreEqualElements xs others

  -- as many, equal one by one in some order
  pub AreEqualMembers : Members → Members → Type 0
  AreEqualMembers no_members ns = ns ≡ no_members
  AreEqualMembers (member k v ms) ns =
      (key : Edn) × (value : Edn) × (others : Members) × Picks key value ns others × Equals k key
      × Equals v value × AreEqualMembers ms others

-- the value is equal to none of the elements
abbrev pub IsNew : Edn → Items → Type 0
IsNew x no_items = Unit {0}
IsNew x (item y ys) = (Equals x y → ⊥) × IsNew x ys

-- no two elements are equal
abbrev pub Differ : Items → Type 0
Differ no_items = Unit {0}
Differ (item x xs) = IsNew x xs × Differ xs

abbrev pub keys_of : Members → Items
keys_of no_members = no_items
keys_of (member k v ms) = item k (keys_of ms)

-- no two keys are equal
abbrev pub KeysDiffer : Members → Type 0
KeysDiffer ms = Differ (keys_of ms)
