-- The lexemes of a text, whether or not the reader takes it (this project's own; what a byte is, and
-- which tokens are tags, is that of EDN's format description, as jh_edn has it).
use Rattle.std.specs.Prelude.{ℕ, zero, suc, ◌+◌, Bool, true, false, not, ◌&&◌, ◌==◌, List, [], ◌∷◌}
use Rattle.std.specs.Prelude.{length, take, drop, slice_index, Option, Some, None, if◌then◌else◌}
use Rattle.std.specs.List.{prefix_len}
use Rattle.jh_edn.specs.Bytes.{is_space, is_token_byte, escaped_byte, quote, backslash, line_feed}
use Rattle.jh_edn.specs.Bytes.{semicolon, hash, underscore, open_paren, close_paren, open_bracket}
use Rattle.jh_edn.specs.Bytes.{close_bracket, open_brace, close_brace}
use Rattle.jh_edn.specs.Spelling.{is_tag}
use Rattle.jh_lexemes.specs.declared.lexeme.Lexeme.{Lexeme}
use Rattle.jh_lexemes.specs.declared.lexeme.Lexeme.TheVariants as kinds
use Rattle.jh_lexemes.specs.declared.lexeme.Bracket.TheVariants.{Round, Square, Curly}

-- there is a byte
abbrev pub is_some : Option ℕ → Bool
is_some (Some b) = true
is_some None = false

-- a byte that stands for something behind a backslash in a string
unfoldable pub is_escape : ℕ → Bool
is_escape c = is_some (escaped_byte c)

-- no line feed
abbrev pub is_in_line : ℕ → Bool
is_in_line c = not (c == line_feed)

-- a string with its closing quote, by whether each escape in it stands for something
abbrev pub closed_string : Bool → Lexeme
closed_string true = kinds.Text
closed_string false = kinds.BadText

-- A string from within: whether its escapes were good so far, whether a backslash stands just
-- before, and how many bytes stand before. What it is, and how many bytes it takes.
abbrev pub quoted : (is_good is_escaped : Bool) → ℕ → List ℕ → Lexeme × ℕ
quoted is_good is_escaped len [] = (kinds.OpenText, len)
quoted is_good true len (c ∷ s) = quoted (is_good && is_escape c) false (len + 1) s
quoted is_good false len (c ∷ s) =
    if c == quote then (closed_string is_good, len + 1)
    else quoted is_good (c == backslash) (len + 1) s

-- a string, from its quote on
unfoldable pub string_front : List ℕ → Lexeme × ℕ
string_front s = quoted true false 1 (drop 1 s)

-- what stands behind a backslash: one byte, and those of a token, of which are all further bytes of a
-- character
abbrev pub behind_backslash : List ℕ → ℕ
behind_backslash [] = 0
behind_backslash (c ∷ s) = 1 + prefix_len is_token_byte s

-- a character, with its backslash
unfoldable pub character_len : List ℕ → ℕ
character_len s = 1 + behind_backslash (drop 1 s)

-- a # that begins neither a discard nor a set, with the token behind it
abbrev pub hash_token : List ℕ → Lexeme
hash_token token = if is_tag token then kinds.Tag else kinds.Token

-- what a # begins
unfoldable pub hash_front : List ℕ → Lexeme × ℕ
hash_front s =
    if slice_index s 1 == underscore then (kinds.Discard, 2)
    else if slice_index s 1 == open_brace then (kinds.OpenSet, 2)
    else (
      hash_token (take (prefix_len is_token_byte (drop 1 s)) (drop 1 s)),
      1 + prefix_len is_token_byte (drop 1 s),
    )

-- the bracket that a byte is
unfoldable pub bracket_of : ℕ → Option Lexeme
bracket_of c =
    if c == open_paren then Some (kinds.Open Round)
    else if c == open_bracket then Some (kinds.Open Square)
    else if c == open_brace then Some (kinds.Open Curly)
    else if c == close_paren then Some (kinds.Close Round)
    else if c == close_bracket then Some (kinds.Close Square)
    else if c == close_brace then Some (kinds.Close Curly)
    else None

-- what another first byte begins, and how many bytes of the text that takes
unfoldable pub other_front : ℕ → List ℕ → Lexeme × ℕ
other_front c s =
    if c == quote then string_front s
    else if c == semicolon then (kinds.Comment, prefix_len is_in_line s)
    else if c == backslash then (kinds.Character, character_len s)
    else if c == hash then hash_front s
    else if is_space c then (kinds.White, prefix_len is_space s)
    else (kinds.Token, prefix_len is_token_byte s)

-- a bracket, of one byte, or else the other
abbrev pub bracket_or : Option Lexeme → Lexeme × ℕ → Lexeme × ℕ
bracket_or (Some bracket) other = (bracket, 1)
bracket_or None other = other

-- the lexeme that the text begins with, and how many bytes it takes: none where it is empty
abbrev pub lexeme_of : List ℕ → Option (Lexeme × ℕ)
lexeme_of [] = None
lexeme_of (c ∷ s) = Some (bracket_or (bracket_of c) (other_front c (c ∷ s)))

-- a lexeme of a text: its kind, its place, its bytes, and what stands behind it
pub record Lexed : Type 0 where
  pub kind : Lexeme
  pub at : ℕ
  pub spelled : List ℕ
  pub behind : List ℕ

-- the lexeme that the text begins with, and behind it those of the rest of the text
abbrev pub lexemes_on : (ℕ → List ℕ → List Lexed) → ℕ → List ℕ → Option (Lexeme × ℕ) → List Lexed
lexemes_on more at s None = []
lexemes_on more at s (Some l) =
    record { kind = l.0; at = at; spelled = take l.1 s; behind = drop l.1 s }
    ∷ more (at + l.1) (drop l.1 s)

-- so many lexemes at most, of a text that stands at a place
unfoldable pub lexemes_from : ℕ → ℕ → List ℕ → List Lexed
lexemes_from zero at s = []
lexemes_from (suc n) at s = lexemes_on (lexemes_from n) at s (lexeme_of s)

-- the lexemes of a text: there are no more of them than bytes
abbrev pub lexemes_in : List ℕ → List Lexed
lexemes_in text = lexemes_from (length text) 0 text
