-- What holds of the lexemes of every text (this project's own).
use Rattle.std.specs.Prelude.{◌≡◌, ℕ, List}
use Rattle.std.specs.List.{flat_map}
use Rattle.jh_lexemes.specs.Lexemes.{lexemes_in}

-- the lexemes of a text, put together, are the text
abbrev pub LexemesAreWhole : Type 0
LexemesAreWhole = (text : List ℕ) → flat_map (λ l. l.spelled) (lexemes_in text) ≡ text
