-- A text as it stands in the page, where no character of it is read as markup (XML 1.0: section 2.2
-- says which characters a document may have, 4.1 and 4.6 how an entity stands for one). A line feed
-- stays; another character that would not show, or that turns or hides the text around it, stands as
-- `\u{1f}` (this project's own).
use Rattle.std.specs.Prelude.{ℕ, length, take, Bool, true, false, not, ◌&&◌, ◌||◌, ◌==◌, nat_lt}
use Rattle.jh_edn.specs.Bytes.{quote}
use Rattle.std.specs.Prelude.{nat_eq, List, [], ◌∷◌, ◌++◌, if◌then◌else◌, codes, encode_utf8}
use Rattle.std.specs.Fmt.{digits}
use Rattle.std.specs.List.{flat_map, list_any, starts_with}
use Rattle.std.specs.Str.{byte, chars}
use Rattle.std.specs.Str.Lossy.{utf8_lossy}

abbrev pub less_sign : ℕ
less_sign = byte "<"

abbrev pub greater_sign : ℕ
greater_sign = byte ">"

abbrev pub ampersand : ℕ
ampersand = byte "&"

abbrev pub apostrophe : ℕ
apostrophe = byte "'"

-- a control character but a line feed, or one of the two code points below 2 ^ 16 that are no
-- surrogates and that XML has no place for
abbrev pub is_hidden : ℕ → Bool
is_hidden c =
    (nat_lt c 32 && not (c == 10)) || (nat_lt 126 c && nat_lt c 160) || c == 65534 || c == 65535

-- A character that turns the direction of the text around it (Unicode Standard Annex 9: U+200E,
-- U+200F, U+202A to U+202E, U+2066 to U+2069), or that joins or parts what is around it and has no
-- width (U+200B to U+200D, U+FEFF).
abbrev pub is_invisible : ℕ → Bool
is_invisible c =
    (nat_lt 8202 c && nat_lt c 8208) || (nat_lt 8233 c && nat_lt c 8239)
    || (nat_lt 8293 c && nat_lt c 8298) || c == 65279

-- a character by its number, in hexadecimal digits
abbrev pub number_text : ℕ → List ℕ
number_text c = codes "\\u{" ++ (digits 16 false c ++ codes "}")

-- a character, as it stands between tags and in attributes
unfoldable pub escaped_character : ℕ → List ℕ
escaped_character c =
    if c == less_sign then codes "&lt;" else if c == greater_sign then codes "&gt;"
    else if c == ampersand then codes "&amp;"
    else if c == quote then codes "&quot;" else if c == apostrophe then codes "&#39;"
    else if is_hidden c || is_invisible c then number_text c else encode_utf8 c

-- a text, as it stands between tags and in attributes
abbrev pub escaped_text : List ℕ → List ℕ
escaped_text text = flat_map escaped_character (chars text)

-- how many characters the label of a bar has room for
abbrev pub label_room : ℕ
label_room = 18

-- characters in that room, with dots where there are more
abbrev pub short_text : List ℕ → List ℕ
short_text cs =
    if nat_lt label_room (length cs)
    then flat_map escaped_character (take label_room cs) ++ codes "&#8230;"
    else flat_map escaped_character cs

-- The same of bytes that something else printed. Where they are no UTF-8, which no printed value
-- is, the replacement character stands for those that are none.
abbrev pub escaped_bytes : List ℕ → List ℕ
escaped_bytes bytes = escaped_text (utf8_lossy bytes)

abbrev pub short_bytes : List ℕ → List ℕ
short_bytes bytes = short_text (chars (utf8_lossy bytes))

-- ---- what an escaped text is proved to be

-- a byte that begins or ends markup
abbrev pub is_markup : ℕ → Bool
is_markup b = b == less_sign || b == greater_sign || b == ampersand || b == quote || b == apostrophe

-- what an ampersand begins: the five characters of markup, and dots
abbrev pub entities : List (List ℕ)
entities =
    codes "&lt;" ∷ codes "&gt;" ∷ codes "&amp;" ∷ codes "&quot;" ∷ codes "&#39;"
    ∷ codes "&#8230;" ∷ []

-- an entity begins the text
abbrev pub begins_entity : List ℕ → Bool
begins_entity text = list_any (λ entity. starts_with nat_eq text entity) entities

-- No byte of the text is read as markup: each one that could be is the ampersand of an entity.
abbrev pub is_inert : List ℕ → Bool
is_inert [] = true
is_inert (b ∷ text) = (not (is_markup b) || begins_entity (b ∷ text)) && is_inert text
