-- What spells a value (EDN's format description, "Built-in elements", "Comments", "Discard"): a
-- relation between values and texts. Each says of a text that begins so what stands behind.
use Rattle.std.specs.Prelude.{◌≡◌, ℕ, zero, suc, Bool, true, false, not, ◌&&◌, ◌||◌, ◌==◌, nat_lt}
use Rattle.std.specs.Prelude.{if◌then◌else◌, ◌≤◌, ◌⊎◌, ℤ, Option, Some, None, codes, encode_utf8}
use Rattle.std.specs.Prelude.{List, [], ◌∷◌, ◌++◌, length, drop, slice_index, FitsSigned, ◌-◌}
use Rattle.std.specs.Int.{w64}
use Rattle.std.specs.List.{list_all, count_by}
use Rattle.std.specs.Char.{IsScalar}
use Rattle.std.specs.Str.{byte, bytes_eq}
use Rattle.std.specs.Str.Parse.{IsNumeral, digits_value, signed_digits_value, without_leading_sign}
use Rattle.jh_edn.specs.Edn.{Edn, nil, boolean, int, char, str, keyword, symbol, list, vector}
use Rattle.jh_edn.specs.Edn.{mapping, set, tagged, Items, no_items, item, items_of, Members}
use Rattle.jh_edn.specs.Edn.{no_members, member}
use Rattle.jh_edn.specs.Bytes.{backspace, tab, form_feed, carriage_return, space, open_paren}
use Rattle.jh_edn.specs.Bytes.{close_paren, is_among, is_between, is_digit, is_letter, is_hex}
use Rattle.jh_edn.specs.Bytes.{is_blank, quote, slash, digit_zero, colon, semicolon, hash}
use Rattle.jh_edn.specs.Bytes.{underscore, line_feed, capital_n, open_bracket, close_bracket}
use Rattle.jh_edn.specs.Bytes.{backslash, open_brace, close_brace, is_space, is_token_byte}
use Rattle.jh_edn.specs.Bytes.{is_plain, is_symbol, is_first, escaped_byte}
use Rattle.jh_edn.specs.Equality.{Differ, KeysDiffer}

-- a zero stands first only where it stands alone
abbrev pub HasNoLeadingZero : List ℕ → Type 0
HasNoLeadingZero digits = slice_index digits 0 ≡ digit_zero → length digits ≡ 1

-- The text is a sign or none, digits, and an N or none, and the number fits 64 bits.
pub record IsInteger (s : List ℕ) (z : ℤ) : Type 0 where
  pub core : List ℕ
  pub suffix : (s ≡ core) ⊎ (s ≡ core ++ capital_n ∷ [])
  pub digits : IsNumeral 10 (without_leading_sign core)
  pub plain : HasNoLeadingZero (without_leading_sign core)
  pub fits : FitsSigned w64 (signed_digits_value 10 core)
  pub value : z ≡ signed_digits_value 10 core

-- What stands between the quotes of a string with these bytes: each by itself, or behind a
-- backslash.
abbrev pub IsBody : List ℕ → List ℕ → Type 0
IsBody [] s = s ≡ []
IsBody (b ∷ bytes) s =
    (rest : List ℕ) × IsBody bytes rest
    × (((is_plain b ≡ true) × (s ≡ b ∷ rest))
    ⊎ ((e : ℕ) × (escaped_byte e ≡ Some b) × (s ≡ backslash ∷ e ∷ rest)))

-- A keyword's name: symbol characters, with at most one slash, which is neither first nor last.
unfoldable pub is_name : List ℕ → Bool
is_name s =
    is_first (slice_index s 0) && list_all is_symbol s && nat_lt (count_by (λ c. c == slash) s) 2
    && not (slice_index s (length s - 1) == slash)

-- nil, true and false are values of their own
unfoldable pub is_constant : List ℕ → Bool
is_constant s = bytes_eq s (codes "nil") || bytes_eq s (codes "true") || bytes_eq s (codes "false")

-- a number, or what looks like one: a digit first, or second behind a first +, - or .
unfoldable pub looks_numeric : List ℕ → Bool
looks_numeric s =
    is_digit (slice_index s 0)
    || (is_among (codes "+-.") (slice_index s 0) && is_digit (slice_index s 1))

-- A symbol: a slash alone, or a name that neither looks like a number nor is nil, true or false.
unfoldable pub is_symbol_name : List ℕ → Bool
is_symbol_name s =
    bytes_eq s (slash ∷ []) || (is_name s && not (looks_numeric s) && not (is_constant s))

-- a tag: a symbol that begins with a letter
unfoldable pub is_tag : List ℕ → Bool
is_tag s = is_letter (slice_index s 0) && is_symbol_name s

-- the characters that have names
unfoldable pub char_named : List ℕ → Option ℕ
char_named name =
    if bytes_eq name (codes "newline") then Some line_feed
    else if bytes_eq name (codes "return") then Some carriage_return
    else if bytes_eq name (codes "space") then Some space
    else if bytes_eq name (codes "tab") then Some tab
    else if bytes_eq name (codes "formfeed") then Some form_feed
    else if bytes_eq name (codes "backspace") then Some backspace
    else None

-- half of a pair in UTF-16, and no character
abbrev pub is_surrogate : ℕ → Bool
is_surrogate c = is_between 0xD800 0xDFFF c

-- the character of u and four hexadecimal digits
unfoldable pub char_numbered : List ℕ → Option ℕ
char_numbered (u ∷ d₁ ∷ d₂ ∷ d₃ ∷ d₄ ∷ []) =
    if u == byte "u" && list_all is_hex (d₁ ∷ d₂ ∷ d₃ ∷ d₄ ∷ [])
    && not (is_surrogate (digits_value 16 (d₁ ∷ d₂ ∷ d₃ ∷ d₄ ∷ [])))
    then Some (digits_value 16 (d₁ ∷ d₂ ∷ d₃ ∷ d₄ ∷ []))
    else None
char_numbered _ = None

-- What may stand behind the backslash of a character: the character itself, unless it is blank, its
-- name or its number.
abbrev pub IsCharacter : ℕ → List ℕ → Type 0
IsCharacter c text =
    (IsScalar c × (is_blank c ≡ false) × (text ≡ encode_utf8 c))
    ⊎ ((char_named text ≡ Some c) ⊎ (char_numbered text ≡ Some c))

-- a token that ends before this text does not go on in it
abbrev pub BeginsNoToken : List ℕ → Type 0
BeginsNoToken [] = Unit {0}
BeginsNoToken (c ∷ s) = is_token_byte c ≡ false

-- no line feed
abbrev pub IsLine : List ℕ → Type 0
IsLine s = list_all (λ c. not (c == line_feed)) s ≡ true

-- a comment ends here: at the end of the text, or before a line feed
abbrev pub EndsLine : List ℕ → Type 0
EndsLine [] = Unit {0}
EndsLine (c ∷ s) = c ≡ line_feed

-- The text begins with a gap, behind which the rest stands: white space, comments, and elements
-- that are discarded, of which Next says what stands behind one ("Discard": a gap may stand before
-- the element).
pub data BeginsWithGap (Next : Edn → List ℕ → List ℕ → Type 0) : List ℕ → List ℕ → Type 0 where
  nothing : {text rest : List ℕ} → text ≡ rest → BeginsWithGap Next text rest
  white : {text rest : List ℕ} (c : ℕ) (more : List ℕ) → text ≡ c ∷ more → is_space c ≡ true
      → BeginsWithGap Next more rest → BeginsWithGap Next text rest
  comment : {text rest : List ℕ} (line more : List ℕ) → text ≡ semicolon ∷ (line ++ more)
      → IsLine line → EndsLine more → BeginsWithGap Next more rest → BeginsWithGap Next text rest
  discard : {text rest : List ℕ} (x : Edn) (more behind : List ℕ) → text ≡ hash ∷ underscore ∷ more
      → Next x more behind → BeginsWithGap Next behind rest → BeginsWithGap Next text rest

-- what may stand at a place: gaps, and elements with the gaps before them
pub record Inner : Type 1 where
  pub gap : List ℕ → List ℕ → Type 0
  pub next : Edn → List ℕ → List ℕ → Type 0

-- elements, each behind a gap, and a gap at the end
abbrev pub SpellsElements : Inner → Items → List ℕ → List ℕ → Type 0
SpellsElements inner no_items text rest = inner.gap text rest
SpellsElements inner (item x xs) text rest =
    (more : List ℕ) × inner.next x text more × SpellsElements inner xs more rest

-- each key, and its value after it
abbrev pub items_of_members : Members → Items
items_of_members no_members = no_items
items_of_members (member k v ms) = item k (item v (items_of_members ms))

-- a token that is such, and is not cut off
abbrev pub BeginsWithToken : (List ℕ → Type 0) → List ℕ → List ℕ → Type 0
BeginsWithToken IsSuch text rest =
    (token : List ℕ) × IsSuch token × (text ≡ token ++ rest) × BeginsNoToken rest

-- The text begins with a spelling of the value, behind which the rest stands.
abbrev pub SpellsFront : Inner → Edn → List ℕ → List ℕ → Type 0
SpellsFront inner nil text rest = BeginsWithToken (λ token. token ≡ codes "nil") text rest
SpellsFront inner (boolean true) text rest =
    BeginsWithToken (λ token. token ≡ codes "true") text rest
SpellsFront inner (boolean false) text rest =
    BeginsWithToken (λ token. token ≡ codes "false") text rest
SpellsFront inner (int z) text rest = BeginsWithToken (λ token. IsInteger token z) text rest
SpellsFront inner (char c) text rest =
    (name : List ℕ) × IsCharacter c name × (text ≡ backslash ∷ (name ++ rest)) × BeginsNoToken rest
SpellsFront inner (str t) text rest =
    (body : List ℕ) × IsBody t body × (text ≡ quote ∷ (body ++ quote ∷ rest))
SpellsFront inner (keyword name) text rest =
    BeginsWithToken (λ token. (is_name name ≡ true) × (token ≡ colon ∷ name)) text rest
SpellsFront inner (symbol name) text rest =
    BeginsWithToken (λ token. (is_symbol_name name ≡ true) × (token ≡ name)) text rest
SpellsFront inner (list xs) text rest =
    (more : List ℕ) × (text ≡ open_paren ∷ more) × SpellsElements inner xs more (close_paren ∷ rest)
SpellsFront inner (vector xs) text rest =
    (more : List ℕ) × (text ≡ open_bracket ∷ more)
    × SpellsElements inner xs more (close_bracket ∷ rest)
SpellsFront inner (mapping ms) text rest =
    (more : List ℕ) × (text ≡ open_brace ∷ more)
    × SpellsElements inner (items_of_members ms) more (close_brace ∷ rest) × KeysDiffer ms
SpellsFront inner (set xs) text rest =
    (more : List ℕ) × (text ≡ hash ∷ open_brace ∷ more)
    × SpellsElements inner xs more (close_brace ∷ rest) × Differ xs
SpellsFront inner (tagged tag x) text rest =
    (more : List ℕ) × (is_tag tag ≡ true) × (text ≡ hash ∷ (tag ++ more)) × BeginsNoToken more
    × inner.next x more rest

-- where nothing may stand
abbrev pub no_grammar : Inner
no_grammar = record { gap = λ text rest. ⊥; next = λ x text rest. ⊥ }

-- gaps and elements around such ones
abbrev pub grammar_around : Inner → Inner
grammar_around inner = record {
  gap = BeginsWithGap inner.next;
  next =
      λ x text rest. (here : List ℕ) × BeginsWithGap inner.next text here
      × SpellsFront inner x here rest;
}

-- what may stand inside, with brackets, tags and discards nested one less deep than that
unfoldable pub inside : ℕ → Inner
inside zero = no_grammar
inside (suc depth) = grammar_around (inside depth)

-- how deep brackets, tags and discards may be nested
abbrev pub depth_limit : ℕ
depth_limit = 64

-- gaps and elements of a whole text
abbrev pub whole : Inner
whole = grammar_around (inside depth_limit)

-- the text is a gap and nothing else
abbrev pub IsGap : List ℕ → Type 0
IsGap text = whole.gap text []

-- a whole text: these values, with gaps before, between and behind them
abbrev pub SpellsAll : List Edn → List ℕ → Type 0
SpellsAll xs text = SpellsElements whole (items_of xs) text []

-- From `at` to `end` the text is a gap and a spelling of the value that is not cut off in a token.
abbrev pub Reads : List ℕ → ℕ → Edn → ℕ → Type 0
Reads text at x end = (end ≤ length text) × whole.next x (drop at text) (drop end text)

-- from there on the text is no gap, and no value is spelled next
abbrev pub NothingReads : List ℕ → ℕ → Type 0
NothingReads text at = (IsGap (drop at text) → ⊥) × ((x : Edn) (end : ℕ) → Reads text at x end → ⊥)
