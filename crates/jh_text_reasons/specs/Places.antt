-- Where an element of a text stands (this project's own; what an element is, and what white space and
-- comments are, is that of EDN's format description, as jh_edn has it).
use Rattle.std.specs.Prelude.{◌≡◌, ◌⊎◌, ℕ, ◌+◌, Bool, true, false, List, drop, Some}
use Rattle.jh_edn.specs.Edn.{Edn}
use Rattle.jh_edn.specs.Spelling.{Reads}
use Rattle.jh_lexemes.specs.Lexemes.{lexeme_of}
use Rattle.jh_lexemes.specs.declared.lexeme.Bracket.{Bracket}
use Rattle.jh_lexemes.specs.declared.lexeme.Bracket.TheVariants.{Curly}
use Rattle.jh_lexemes.specs.declared.lexeme.Lexeme.{Lexeme}
use Rattle.jh_lexemes.specs.declared.lexeme.Lexeme.TheVariants.{White, Comment, Open}

-- Reading so many elements from a place on, one comes to that place.
pub data AreRead (text : List ℕ) (from : ℕ) : (number place : ℕ) → Type 0 where
  none : (number place : ℕ) → number ≡ 0 → place ≡ from → AreRead text from number place
  one_more : (fewer number before place : ℕ) (element : Edn) → AreRead text from fewer before
      → Reads text before element place → number ≡ fewer + 1 → AreRead text from number place

-- white space, or a comment
abbrev pub is_white : Lexeme → Bool
is_white White = true
is_white Comment = true
is_white kind = false

-- So many bytes of it stand at a place.
abbrev pub IsBlankAt : List ℕ → (place len : ℕ) → Type 0
IsBlankAt text place len =
    (kind : Lexeme) × (lexeme_of (drop place text) ≡ Some (kind, len)) × (is_white kind ≡ true)

-- Nothing else stands between two places.
pub data IsBehindBlank (text : List ℕ) (at : ℕ) : ℕ → Type 0 where
  here : (place : ℕ) → place ≡ at → IsBehindBlank text at place
  behind : (place len end : ℕ) → IsBehindBlank text at place → IsBlankAt text place len
      → end ≡ place + len → IsBehindBlank text at end

-- None of it stands there.
abbrev pub HasNoBlank : List ℕ → ℕ → Type 0
HasNoBlank text place = (len : ℕ) → IsBlankAt text place len → ⊥

-- The element of a number, from 0, begins there: behind so many elements that are read from a place
-- on, and what is blank behind them.
pub record IsPlaceOf (text : List ℕ) (from number place : ℕ) : Type 0 where
  pub end : ℕ
  pub before : AreRead text from number end
  pub between : IsBehindBlank text end place
  pub begins : HasNoBlank text place

-- a bracket of a list or of a vector
abbrev pub is_of_sequence : Bracket → Bool
is_of_sequence Curly = false
is_of_sequence bracket = true

-- just behind a bracket that opens a list or a vector
pub record IsInside (text : List ℕ) (from : ℕ) : Type 0 where
  pub place : ℕ
  pub len : ℕ
  pub bracket : Bracket
  pub opens : lexeme_of (drop place text) ≡ Some (Open bracket, len)
  pub sequence : is_of_sequence bracket ≡ true
  pub behind : from ≡ place + len

-- of a history, which is the values of a text, or the elements of a list or vector in it
abbrev pub IsPlaceOfOperation : List ℕ → (number place : ℕ) → Type 0
IsPlaceOfOperation text number place =
    IsPlaceOf text 0 number place
    ⊎ ((from : ℕ) × IsInside text from × IsPlaceOf text from number place)
