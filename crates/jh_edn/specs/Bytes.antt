-- The bytes of EDN texts (EDN's format description, "General considerations", "Strings", "Symbols",
-- "Keywords", "Characters", "Comments", "Discard"). A text is the list of its UTF-8 bytes. Every
-- byte that means something by itself is ASCII.
use Rattle.std.specs.Prelude.{ℕ, ◌<◌, Bool, not, ◌&&◌, ◌||◌, ◌==◌, nat_le, nat_lt, List}
use Rattle.std.specs.Prelude.{slice_index, Option, Some, None, if◌then◌else◌, codes}
use Rattle.std.specs.List.{list_any}
use Rattle.std.specs.Char.{digit_value}
use Rattle.std.specs.Str.{byte}

abbrev pub backspace : ℕ
backspace = 8

abbrev pub tab : ℕ
tab = 9

abbrev pub line_feed : ℕ
line_feed = 10

abbrev pub form_feed : ℕ
form_feed = 12

abbrev pub carriage_return : ℕ
carriage_return = 13

abbrev pub space : ℕ
space = byte " "

abbrev pub quote : ℕ
quote = byte "\""

abbrev pub hash : ℕ
hash = byte "#"

abbrev pub open_paren : ℕ
open_paren = byte "("

abbrev pub close_paren : ℕ
close_paren = byte ")"

abbrev pub plus : ℕ
plus = byte "+"

abbrev pub comma : ℕ
comma = byte ","

abbrev pub minus : ℕ
minus = byte "-"

abbrev pub slash : ℕ
slash = byte "/"

abbrev pub digit_zero : ℕ
digit_zero = byte "0"

abbrev pub digit_nine : ℕ
digit_nine = byte "9"

abbrev pub colon : ℕ
colon = byte ":"

abbrev pub semicolon : ℕ
semicolon = byte ";"

abbrev pub capital_n : ℕ
capital_n = byte "N"

abbrev pub open_bracket : ℕ
open_bracket = byte "["

abbrev pub backslash : ℕ
backslash = byte "\\"

abbrev pub close_bracket : ℕ
close_bracket = byte "]"

abbrev pub underscore : ℕ
underscore = byte "_"

abbrev pub open_brace : ℕ
open_brace = byte "{"

abbrev pub close_brace : ℕ
close_brace = byte "}"

-- a byte that is a character by itself
abbrev pub IsAscii : ℕ → Type 0
IsAscii c = c < 128

-- one of these bytes
abbrev pub is_among : List ℕ → ℕ → Bool
is_among marks c = list_any (λ m. c == m) marks

-- between the two, both included
abbrev pub is_between : ℕ → ℕ → ℕ → Bool
is_between low high c = nat_le low c && nat_le c high

-- white space: space, comma, and tab, line feed, vertical tab, form feed, carriage return
unfoldable pub is_space : ℕ → Bool
is_space c = c == space || c == comma || is_between tab carriage_return c

-- what ends a token besides white space
unfoldable pub is_delimiter : ℕ → Bool
is_delimiter c = is_among (codes "()[]{}\";\\") c

-- what a token is made of
unfoldable pub is_token_byte : ℕ → Bool
is_token_byte c = not (is_space c) && not (is_delimiter c)

-- what stands for itself in a string
unfoldable pub is_plain : ℕ → Bool
is_plain c = not (c == quote) && not (c == backslash)

-- a decimal digit
unfoldable pub is_digit : ℕ → Bool
is_digit c = is_between digit_zero digit_nine c

-- what a byte after a backslash in a string stands for: t, r, n, \, ", b, f
unfoldable pub escaped_byte : ℕ → Option ℕ
escaped_byte c =
    if c == byte "t" then Some tab
    else if c == byte "r" then Some carriage_return
    else if c == byte "n" then Some line_feed
    else if c == backslash then Some backslash
    else if c == quote then Some quote
    else if c == byte "b" then Some backspace
    else if c == byte "f" then Some form_feed
    else None

-- the characters of symbols: ASCII letters, digits and these
unfoldable pub is_symbol : ℕ → Bool
is_symbol c =
    is_digit c || is_between (byte "A") (byte "Z") c || is_between (byte "a") (byte "z") c
    || is_among (codes ".*+!-_?$%&=<>:#'/") c

-- an ASCII letter
unfoldable pub is_letter : ℕ → Bool
is_letter c = is_between (byte "A") (byte "Z") c || is_between (byte "a") (byte "z") c

-- a hexadecimal digit, of either case
unfoldable pub is_hex : ℕ → Bool
is_hex c = nat_lt (digit_value c) 16

-- a character that may not stand behind a backslash: white space, but for the comma
unfoldable pub is_blank : ℕ → Bool
is_blank c = c == space || is_between tab carriage_return c

-- what may be the first character of a keyword's name
unfoldable pub is_first : ℕ → Bool
is_first c = is_symbol c && not (is_among (codes ":#'/") c)

-- a discard stands first: #_
unfoldable pub begins_discard : List ℕ → Bool
begins_discard s = slice_index s 0 == hash && slice_index s 1 == underscore
