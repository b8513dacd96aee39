-- Which brackets are open at the end of a text (this project's own).
use Rattle.std.specs.Prelude.{ℕ, ◌-◌, List, [], ◌∷◌, ◌++◌, length, take}
use Rattle.jh_lexemes.specs.declared.lexeme.Lexeme.{Lexeme}
use Rattle.jh_lexemes.specs.declared.lexeme.Lexeme.TheVariants.{Open, OpenSet, OpenText, Close}
use Rattle.jh_lexemes.specs.Lexemes.{Lexed, lexemes_in}

-- all but the last
abbrev pub without_last : List ℕ → List ℕ
without_last places = take (length places - 1) places

-- Where brackets are open, outermost first, behind one lexeme more, which begins at a place. A string
-- without its end is open too.
abbrev pub after_lexeme : List ℕ → Lexeme → ℕ → List ℕ
after_lexeme places (Open bracket) at = places ++ at ∷ []
after_lexeme places OpenSet at = places ++ at ∷ []
after_lexeme places OpenText at = places ++ at ∷ []
after_lexeme places (Close bracket) at = without_last places
after_lexeme places kind at = places

-- the same behind all of these
abbrev pub after_lexemes : List ℕ → List Lexed → List ℕ
after_lexemes places [] = places
after_lexemes places (l ∷ more) = after_lexemes (after_lexeme places l.kind l.at) more

-- the brackets that are open at the end of the text
abbrev pub open_brackets : List ℕ → List ℕ
open_brackets text = after_lexemes [] (lexemes_in text)
