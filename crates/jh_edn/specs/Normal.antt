-- The normal form of a value (this project's own): lists become vectors, the pairs of maps stand in
-- the order of their keys and the elements of sets in their own, all from the inside out.
use Rattle.std.specs.Prelude.{ℕ, ◌-◌, ◌^◌, Bool, true, false, ◌&&◌, nat_lt, List, [], ◌∷◌, Option}
use Rattle.std.specs.Prelude.{Some, None}
use lib.Utf8.{scalar}
use Rattle.jh_edn.specs.Edn.{Edn, nil, boolean, int, char, str, keyword, symbol, list, vector}
use Rattle.jh_edn.specs.Edn.{mapping, set, tagged, Items, no_items, item, items_of, Members}
use Rattle.jh_edn.specs.Edn.{no_members, member, members_of}
use Rattle.jh_edn.specs.Equality.{keys_of}
use Rattle.jh_edn.specs.Order.{in_order, is_below, has_key_below}
use Rattle.jh_edn.specs.Spelling.{is_name, is_symbol_name, is_tag, depth_limit}
use Rattle.jh_edn.specs.Reading.{magnitude}

abbrev mutual
  pub normal : Edn → Edn
  normal (list xs) = vector (items_of (normal_list xs))
  normal (vector xs) = vector (items_of (normal_list xs))
  normal (mapping ms) = mapping (members_of (in_order has_key_below (normal_pairs ms)))
  normal (set xs) = set (items_of (in_order is_below (normal_list xs)))
  normal (tagged tag x) = tagged tag (normal x)
  normal x = x

  -- each element in normal form
  pub normal_list : Items → List Edn
  normal_list no_items = []
  normal_list (item x xs) = normal x ∷ normal_list xs

  -- each key and each value in normal form
  pub normal_pairs : Members → List (Edn × Edn)
  normal_pairs no_members = []
  normal_pairs (member k v ms) = (normal k, normal v) ∷ normal_pairs ms

-- the value is above the last one, where there is one
abbrev pub is_above : Edn → Option Edn → Bool
is_above x None = true
is_above x (Some last) = is_below last x

-- each is below the next
abbrev pub ascends : Items → Bool
ascends no_items = true
ascends (item x no_items) = true
ascends (item x (item y ys)) = is_below x y && ascends (item y ys)

-- Whether a value is in normal form and can be read back, with collections and tags nested no
-- deeper than that: no list stands in it, its names are such, the keys of its maps and the elements
-- of its sets ascend.
abbrev mutual
  pub is_normal_within : ℕ → Edn → Bool
  is_normal_within depth nil = true
  is_normal_within depth (boolean b) = true
  is_normal_within depth (int z) = nat_lt (magnitude z) (2 ^ 63)
  is_normal_within depth (char c) = scalar c
  is_normal_within depth (str s) = true
  is_normal_within depth (keyword name) = is_name name
  is_normal_within depth (symbol name) = is_symbol_name name
  is_normal_within depth (list xs) = false
  is_normal_within depth (vector xs) = nat_lt 0 depth && are_normal_within (depth - 1) xs
  is_normal_within depth (mapping ms) =
      nat_lt 0 depth && (are_normal_pairs_within (depth - 1) ms && ascends (keys_of ms))
  is_normal_within depth (set xs) =
      nat_lt 0 depth && (are_normal_within (depth - 1) xs && ascends xs)
  is_normal_within depth (tagged tag x) =
      nat_lt 0 depth && (is_tag tag && is_normal_within (depth - 1) x)

  -- each element is
  pub are_normal_within : ℕ → Items → Bool
  are_normal_within depth no_items = true
  are_normal_within depth (item x xs) = is_normal_within depth x && are_normal_within depth xs

  -- each key and each value is
  pub are_normal_pairs_within : ℕ → Members → Bool
  are_normal_pairs_within depth no_members = true
  are_normal_pairs_within depth (member k v ms) =
      is_normal_within depth k && (is_normal_within depth v && are_normal_pairs_within depth ms)

-- a value that is in normal form and can be read back
abbrev pub is_normal : Edn → Bool
is_normal x = is_normal_within depth_limit x
