-- The one printed text of a value (this project's own; what it may look like is EDN's format
-- description).
use Rattle.std.specs.Prelude.{ℕ, ◌/◌, ◌%◌, Bool, not, ◌||◌, nat_lt, List, [], ◌∷◌, ◌++◌}
use Rattle.std.specs.Prelude.{if◌then◌else◌, ◌==◌, codes, encode_utf8}
use Rattle.std.specs.Char.{digit_char}
use Rattle.std.specs.List.{flat_map}
use Rattle.std.specs.Fmt.{signed_decimal}
use Rattle.jh_edn.specs.Edn.{Edn, nil, boolean, int, char, str, keyword, symbol, list, vector}
use Rattle.jh_edn.specs.Edn.{mapping, set, tagged, Items, no_items, item, Members, no_members}
use Rattle.jh_edn.specs.Edn.{member}
use Rattle.jh_edn.specs.Bytes.{is_among, backspace, tab, line_feed, form_feed, carriage_return}
use Rattle.jh_edn.specs.Bytes.{space, quote, hash, colon, backslash, open_paren, close_paren}
use Rattle.jh_edn.specs.Bytes.{open_bracket, close_bracket, open_brace, close_brace}

-- a byte of a string, as it stands between quotes
abbrev pub escape : ℕ → List ℕ
escape c =
    if c == quote
    then codes "\\\""
    else if c == backslash then codes "\\\\"
    else if c == line_feed then codes "\\n"
    else if c == tab then codes "\\t" else if c == carriage_return then codes "\\r"
    else if c == backspace then codes "\\b"
    else if c == form_feed then codes "\\f" else c ∷ []

-- a byte that stands for itself between quotes
unfoldable pub is_printed_bare : ℕ → Bool
is_printed_bare c =
    not (is_among
    (quote ∷ backslash ∷ line_feed ∷ tab ∷ carriage_return ∷ backspace ∷ form_feed ∷ []) c)

-- a character that would not show
abbrev pub is_unshown : ℕ → Bool
is_unshown c = nat_lt c 32 || c == 127

-- u and the character's number below 256 in four hexadecimal digits
abbrev pub char_number : ℕ → List ℕ
char_number c = codes "u00" ++ digit_char (c / 16) ∷ digit_char (c % 16) ∷ []

-- what stands behind the backslash of a character: its name, its number where it would not show, or
-- itself
unfoldable pub char_text : ℕ → List ℕ
char_text c =
    if c == line_feed then codes "newline" else if c == carriage_return then codes "return"
    else if c == space then codes "space"
    else if c == tab then codes "tab" else if c == form_feed then codes "formfeed"
    else if c == backspace then codes "backspace"
    else if is_unshown c then char_number c else encode_utf8 c

-- texts one after the other, with the separator between
abbrev pub joined_text : List ℕ → List (List ℕ) → List ℕ
joined_text separator [] = []
joined_text separator (t ∷ []) = t
joined_text separator (t ∷ u ∷ ts) = t ++ (separator ++ joined_text separator (u ∷ ts))

-- what stands before a text that is joined to others: the separator, but not before the first
abbrev pub separator_before : Bool → List ℕ → List ℕ
separator_before first separator = if first then [] else separator

abbrev mutual
  pub print : Edn → List ℕ
  print nil = codes "nil"
  print (boolean b) = if b then codes "true" else codes "false"
  print (int z) = signed_decimal z
  print (char c) = backslash ∷ char_text c
  print (str s) = quote ∷ (flat_map escape s ++ quote ∷ [])
  print (keyword s) = colon ∷ s
  print (symbol s) = s
  print (list xs) = open_paren ∷ (joined_text (codes " ") (item_texts xs) ++ close_paren ∷ [])
  print (vector xs) = open_bracket ∷ (joined_text (codes " ") (item_texts xs) ++ close_bracket ∷ [])
  print (mapping ms) = open_brace ∷ (joined_text (codes ", ") (member_texts ms) ++ close_brace ∷ [])
  print (set xs) = hash ∷ open_brace ∷ (joined_text (codes " ") (item_texts xs) ++ close_brace ∷ [])
  print (tagged tag x) = hash ∷ (tag ++ (space ∷ print x))

  -- the text of each element
  pub item_texts : Items → List (List ℕ)
  item_texts no_items = []
  item_texts (item x xs) = print x ∷ item_texts xs

  -- the text of each pair: the key, a space, the value
  pub member_texts : Members → List (List ℕ)
  member_texts no_members = []
  member_texts (member k v ms) = (print k ++ (codes " " ++ print v)) ∷ member_texts ms
