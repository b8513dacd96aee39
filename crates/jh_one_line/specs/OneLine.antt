-- How a text is shown in a message: on one line, and no longer than one reads (this project's own).
use Rattle.std.specs.Prelude.{◌≡◌, ℕ, ◌<◌, ◌≤◌, false, List, [], ◌++◌, codes, if◌then◌else◌}
use Rattle.std.specs.Prelude.{encode_utf8, chars, flat_map, length, nat_lt, take}
use Rattle.std.specs.Char.{is_control}
use Rattle.std.specs.Fmt.{digits}
use Rattle.std.specs.Str.{IsCharBoundary}

-- a control character by its number in hexadecimal digits, any other by itself
abbrev pub shown_character : ℕ → List ℕ
shown_character c =
    if is_control c then codes "\\u{" ++ digits 16 false c ++ codes "}" else encode_utf8 c

-- a text with each character so
abbrev pub one_line_text : List ℕ → List ℕ
one_line_text text = flat_map shown_character (chars text)

-- The front of a text up to this place: the last place between two characters that is no further than
-- so many bytes.
pub record IsCutAt (most : ℕ) (text : List ℕ) (place : ℕ) : Type 0 where
  pub few : place ≤ most
  pub whole : IsCharBoundary text place
  pub last : (other : ℕ) → place < other → other ≤ most → IsCharBoundary text other → ⊥

-- what stands for what is cut away
abbrev pub dots_behind : (place all : ℕ) → List ℕ
dots_behind place all = if nat_lt place all then codes ".." else []

-- the text on one line, cut to so many bytes
abbrev pub IsShortened : ℕ → List ℕ → List ℕ → Type 0
IsShortened most text shown =
    (place : ℕ) × IsCutAt most text place
    × (shown ≡ one_line_text (take place text) ++ dots_behind place (length text))
