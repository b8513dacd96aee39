-- What is open in a text, and where elements end (this project's own). The innermost stands first.
use Rattle.std.specs.Prelude.{Bool, true, false, List, [], ◌∷◌, length, nat_lt, Option, Some, None}
use Rattle.std.specs.Prelude.{if◌then◌else◌}
use Rattle.jh_edn.specs.Spelling.{depth_limit}
use Rattle.jh_lexemes.specs.declared.lexeme.Bracket.{Bracket}
use Rattle.jh_lexemes.specs.declared.lexeme.Bracket.TheVariants as brackets
use Rattle.jh_unread.specs.declared.parts.Opened.{Opened}
use Rattle.jh_unread.specs.declared.parts.Opened.TheVariants.{Round, Square, Curly, Set, Discard}
use Rattle.jh_unread.specs.declared.parts.Part.{Part}
use Rattle.jh_unread.specs.declared.parts.Part.TheVariants.{Gap, Prefix, Opens, Closes, Whole, Broken}

-- the bracket closes this
abbrev pub closes : Opened → Bracket → Bool
closes Round brackets.Round = true
closes Square brackets.Square = true
closes Curly brackets.Curly = true
closes Set brackets.Curly = true
closes other bracket = false

-- What is open behind an element, and whether that is an element of what it stands in: one behind the
-- mark of a discard is not, and ends the discard.
abbrev pub ended : List Opened → List Opened × Bool
ended [] = ([], true)
ended (Discard ∷ nest) = (nest, false)
ended (other ∷ nest) = (other ∷ nest, true)

-- the same behind a bracket that closes, where it closes what is innermost
abbrev pub closed : List Opened → Bracket → Option (List Opened × Bool)
closed [] bracket = None
closed (innermost ∷ nest) bracket = if closes innermost bracket then Some (ended nest) else None

-- one more, where not as many are open as may be
abbrev pub opened : List Opened → Opened → Option (List Opened × Bool)
opened nest more = if nat_lt (length nest) depth_limit then Some (more ∷ nest, false) else None

-- What is open behind a lexeme, by its part, and whether an element ends with it that is not
-- discarded; nothing where no elements can be told apart from there on.
abbrev pub follow : List Opened → Part → Option (List Opened × Bool)
follow nest Gap = Some (nest, false)
follow nest (Prefix found) = Some (nest, false)
follow nest (Whole found) = Some (ended nest)
follow nest (Opens more) = opened nest more
follow nest (Closes bracket) = closed nest bracket
follow nest Broken = None

-- an operation may begin here: at the top level of the text, or directly inside a list or a vector
abbrev pub is_top : List Opened → Bool
is_top [] = true
is_top (Round ∷ []) = true
is_top (Square ∷ []) = true
is_top nest = false
