-- A list of parts for each value, the same list exactly where the values are equal (this project's
-- own).
use Rattle.std.specs.Prelude.{ℕ, Bool, false, ◌||◌, ℤ, pos, List, [], ◌∷◌, ◌++◌, map, if◌then◌else◌}
use Rattle.std.specs.Prelude.{Vec}
use Rattle.std.specs.Global.{Global}
use Rattle.std.specs.declared.cmp.Ordering.{Ordering}
use Rattle.std.specs.Ordering.{nat_cmp, int_cmp, ordering_then, is_lt, is_eq}
use Rattle.std.specs.Cmp.Lexicographic.{slice_cmp}
use Rattle.jh_edn.specs.declared.key.Part.{Part}
use Rattle.jh_edn.specs.declared.key.KeyMark.{KeyMark}
use Rattle.jh_edn.specs.declared.key.KeyMark.TheVariants as mark
use Rattle.jh_edn.specs.Edn.{Edn, nil, boolean, int, char, str, keyword, symbol, list, vector}
use Rattle.jh_edn.specs.Edn.{mapping, set, tagged, Items, no_items, item, Members, no_members}
use Rattle.jh_edn.specs.Edn.{member}
use Rattle.jh_edn.specs.Order.{in_order, text_cmp}

-- a part of a key: what begins or ends there, and its number or text where it has one
pub record KeyPart : Type 0 where
  pub mark : KeyMark
  pub number : ℤ
  pub text : List ℕ

-- what a contract sees of a part that a program holds
abbrev pub key_part : Part → KeyPart
key_part p = record { mark = p.mark; number = p.number; text = p.text.now }

-- the parts, and the keys, that a program holds
abbrev pub key_parts : List Part → List KeyPart
key_parts ps = map key_part ps

abbrev pub keys_in : List (Vec Part Global) → List (List KeyPart)
keys_in vs = map (λ v. key_parts v.items) vs

abbrev pub bare_part : KeyMark → KeyPart
bare_part m = record { mark = m; number = pos 0; text = [] }

abbrev pub numbered_part : KeyMark → ℤ → KeyPart
numbered_part m z = record { mark = m; number = z; text = [] }

abbrev pub text_part : KeyMark → List ℕ → KeyPart
text_part m s = record { mark = m; number = pos 0; text = s }

-- where a mark stands among the marks
abbrev pub mark_place : KeyMark → ℕ
mark_place mark.Last = 0
mark_place mark.More = 1
mark_place mark.Nil = 2
mark_place mark.Bool = 3
mark_place mark.Int = 4
mark_place mark.Char = 5
mark_place mark.Str = 6
mark_place mark.Keyword = 7
mark_place mark.Symbol = 8
mark_place mark.Sequence = 9
mark_place mark.Map = 10
mark_place mark.Set = 11
mark_place mark.Tagged = 12

abbrev pub part_cmp : KeyPart → KeyPart → Ordering
part_cmp p q =
    ordering_then (nat_cmp (mark_place p.mark) (mark_place q.mark))
    (ordering_then (int_cmp p.number q.number) (text_cmp p.text q.text))

abbrev pub key_cmp : List KeyPart → List KeyPart → Ordering
key_cmp = slice_cmp part_cmp

abbrev pub is_key_below : List KeyPart → List KeyPart → Bool
is_key_below k l = is_lt (key_cmp k l)

-- these keys one after the other, each led by a mark, and an end
abbrev pub marked_keys : List (List KeyPart) → List KeyPart
marked_keys [] = bare_part mark.Last ∷ []
marked_keys (k ∷ ks) = bare_part mark.More ∷ (k ++ marked_keys ks)

abbrev mutual
  pub key_of : Edn → List KeyPart
  key_of nil = bare_part mark.Nil ∷ []
  key_of (boolean b) = numbered_part mark.Bool (pos (if b then 1 else 0)) ∷ []
  key_of (int z) = numbered_part mark.Int z ∷ []
  key_of (char c) = numbered_part mark.Char (pos c) ∷ []
  key_of (str s) = text_part mark.Str s ∷ []
  key_of (keyword s) = text_part mark.Keyword s ∷ []
  key_of (symbol s) = text_part mark.Symbol s ∷ []
  key_of (list xs) = bare_part mark.Sequence ∷ marked_keys (item_keys xs)
  key_of (vector xs) = bare_part mark.Sequence ∷ marked_keys (item_keys xs)
  key_of (mapping ms) = bare_part mark.Map ∷ marked_keys (in_order is_key_below (pair_keys ms))
  key_of (set xs) = bare_part mark.Set ∷ marked_keys (in_order is_key_below (item_keys xs))
  key_of (tagged tag x) = text_part mark.Tagged tag ∷ key_of x

  -- for each element its key
  pub item_keys : Items → List (List KeyPart)
  item_keys no_items = []
  item_keys (item x xs) = key_of x ∷ item_keys xs

  -- for each pair its key's key and then its value's
  pub pair_keys : Members → List (List KeyPart)
  pair_keys no_members = []
  pair_keys (member k v ms) = (key_of k ++ key_of v) ∷ pair_keys ms

-- the key is one of these
abbrev pub is_in : List KeyPart → List (List KeyPart) → Bool
is_in k [] = false
is_in k (l ∷ ls) = is_eq (key_cmp l k) || is_in k ls

-- one of the keys is among those before, or stands twice itself
abbrev pub has_twice_after : List (List KeyPart) → List (List KeyPart) → Bool
has_twice_after before [] = false
has_twice_after before (k ∷ ks) = is_in k before || has_twice_after (before ++ k ∷ []) ks

-- one of the keys stands twice
abbrev pub has_twice : List (List KeyPart) → Bool
has_twice ks = has_twice_after [] ks
