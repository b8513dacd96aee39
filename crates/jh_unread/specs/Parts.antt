-- What part a lexeme has in the nesting of elements, and whether it can be read (this project's own).
use Rattle.std.specs.Prelude.{ℕ, Bool, true, false, List, slice_index, codes, Result, Ok, Err}
use Rattle.jh_edn.specs.Bytes.{is_among}
use Rattle.jh_edn.specs.Lines.{values_in}
use Rattle.jh_lexemes.specs.declared.lexeme.Bracket.{Bracket}
use Rattle.jh_lexemes.specs.declared.lexeme.Bracket.TheVariants as brackets
use Rattle.jh_lexemes.specs.declared.lexeme.Lexeme.{Lexeme}
use Rattle.jh_lexemes.specs.declared.lexeme.Lexeme.TheVariants as kinds
use Rattle.jh_unread.specs.declared.parts.Found.TheVariants.{Nothing, Refused, Faulty}
use Rattle.jh_unread.specs.declared.parts.Opened.{Opened}
use Rattle.jh_unread.specs.declared.parts.Opened.TheVariants as opened
use Rattle.jh_unread.specs.declared.parts.Part.{Part}
use Rattle.jh_unread.specs.declared.parts.Part.TheVariants.{Gap, Prefix, Opens, Closes, Whole, Broken}

-- reading gives an error
abbrev pub is_error : {A E : Type 0} → Result A E → Bool
is_error (Ok values) = false
is_error (Err e) = true

-- the reader refuses this text by itself
unfoldable pub is_refused : List ℕ → Bool
is_refused text = is_error (values_in text)

-- What stands here is joined to a token before it: a bracket that opens, a string or a character.
unfoldable pub begins_joined : List ℕ → Bool
begins_joined behind = is_among (codes "([{\"\\") (slice_index behind 0)

-- A token, by whether it is refused, and whether something is joined to it: one that is refused is
-- then no element by itself, as the # before a string.
abbrev pub token_part : (is_refused is_joined : Bool) → Part
token_part true true = Prefix Refused
token_part true false = Whole Refused
token_part false is_joined = Whole Nothing

-- a character, by whether it is refused
abbrev pub character_part : Bool → Part
character_part true = Whole Faulty
character_part false = Whole Nothing

-- what a bracket opens
abbrev pub opened_by : Bracket → Opened
opened_by brackets.Round = opened.Round
opened_by brackets.Square = opened.Square
opened_by brackets.Curly = opened.Curly

-- the part of a lexeme, of what it is spelled as and of what stands behind it
abbrev pub part_of : Lexeme → (spelled behind : List ℕ) → Part
part_of kinds.White spelled behind = Gap
part_of kinds.Comment spelled behind = Gap
part_of kinds.Text spelled behind = Whole Nothing
part_of kinds.BadText spelled behind = Broken
part_of kinds.OpenText spelled behind = Broken
part_of kinds.Character spelled behind = character_part (is_refused spelled)
part_of kinds.Discard spelled behind = Opens opened.Discard
part_of kinds.Tag spelled behind = Prefix Nothing
part_of (kinds.Open bracket) spelled behind = Opens (opened_by bracket)
part_of kinds.OpenSet spelled behind = Opens opened.Set
part_of (kinds.Close bracket) spelled behind = Closes bracket
part_of kinds.Token spelled behind = token_part (is_refused spelled) (begins_joined behind)
