-- The lines that say where an input was refused, without their line feeds (this project's own).
use Rattle.std.specs.Prelude.{◌≡◌, ℕ, List, ◌++◌, codes, drop, take, MatchOption}
use Rattle.std.specs.Fmt.{decimal}
use Rattle.jh_lexemes.specs.Lexemes.{lexeme_of}
use Rattle.jh_lexemes.specs.declared.position.Position.{Position}
use Rattle.jh_one_line.specs.OneLine.{IsShortened}

-- how many bytes of a token, and of a reply, are shown at most
abbrev pub max_token : ℕ
max_token = 40

abbrev pub max_reply : ℕ
max_reply = 200

-- a line and a column of the input
abbrev pub position_text : Position → List ℕ
position_text position =
    codes "line " ++ (decimal position.line ++ (codes ", column " ++ decimal position.column))

-- what stands at a place: the lexeme that begins there, cut; or that nothing does
abbrev pub IsShownAt : List ℕ → ℕ → List ℕ → Type 0
IsShownAt text place shown =
    MatchOption (lexeme_of (drop place text)) (shown ≡ codes "the end")
    (λ lexeme. IsShortened max_token (take lexeme.1 (drop place text)) shown)

-- what stands at a position
abbrev pub at_line : Position → List ℕ → List ℕ
at_line position shown = codes "at " ++ (position_text position ++ (codes ": " ++ shown))

-- a bracket that is not closed
abbrev pub open_line : List ℕ → List ℕ → Position → List ℕ
open_line which bracket position =
    which ++ (codes ": " ++ (bracket ++ (codes " at " ++ position_text position)))

-- where an element or an operation of a number begins
abbrev pub element_line : List ℕ → ℕ → Position → List ℕ
element_line what number position =
    what ++ (codes " " ++ (decimal number ++ (codes " begins at " ++ position_text position)))

-- a reply, as it came
abbrev pub reply_line : ℕ → List ℕ → List ℕ
reply_line number shown = codes "reply " ++ (decimal number ++ (codes " was: " ++ shown))
