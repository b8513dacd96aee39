-- The text of a history without its unread pairs (this project's own): the text is followed lexeme by
-- lexeme, and behind each unread pair of an operation that pair is made blank. Where from some lexeme on
-- no elements can be told apart, or at the end of the text, an operation whose map is still open is left
-- as it is, with all behind it.
use Rattle.std.specs.Prelude.{◌≡◌, ℕ, Bool, true, false, not, ◌&&◌, List, [], ◌∷◌, ◌++◌, length, take}
use Rattle.std.specs.Prelude.{drop, Option, Some, None, option_map}
use Rattle.std.specs.List.{list_all}
use Rattle.jh_lexemes.specs.declared.lexeme.Lexeme.{Lexeme}
use Rattle.jh_lexemes.specs.declared.lexeme.Lexeme.TheVariants.{Token}
use Rattle.jh_lexemes.specs.Lexemes.{Lexed, lexemes_in}
use Rattle.jh_unread.specs.declared.parts.Opened.{Opened}
use Rattle.jh_unread.specs.declared.parts.Part.{Part}
use Rattle.jh_unread.specs.declared.pairs.OpenMap.{OpenMap}
use Rattle.jh_unread.specs.declared.pairs.Followed.{Followed}
use Rattle.jh_unread.specs.Blanks.{blank_behind}
use Rattle.jh_unread.specs.Nesting.{follow, is_top}
use Rattle.jh_unread.specs.Pairs.{operation_behind, operation_from, unread_by}
use Rattle.jh_unread.specs.Parts.{part_of, is_refused}

-- how far the text was followed: what is open, innermost first; the operation whose map is open; and
-- the text up to there, with blanks
pub record Walk : Type 0 where
  pub nest : List Opened
  pub operation : Option OpenMap
  pub out : List ℕ

-- before the first lexeme
abbrev pub walk_start : Walk
walk_start = record { nest = []; operation = None; out = [] }

-- blanks from a place on, if there is one
abbrev pub blanked : Option ℕ → List ℕ → List ℕ
blanked (Some place) out = blank_behind place out
blanked None out = out

-- the operation behind a lexeme, and the text up to there, with the lexeme at its end
abbrev pub operation_and_text : Option OpenMap → List ℕ → Followed → Option OpenMap × List ℕ
operation_and_text None out step = (operation_from step, out)
operation_and_text (Some operation) out step =
    (operation_behind out operation step, blanked (unread_by operation step) out)

-- what a lexeme does, by its part, and by what is open behind it
abbrev pub step_to : Walk → Part → List Opened × Bool → Followed
step_to walk part after =
    record {
      part = part;
      at = length walk.out;
      before = length walk.nest;
      after = length after.0;
      is_element = after.1;
      is_top = is_top walk.nest;
    }

-- a walk with what is open, an operation and a text
abbrev pub walk_with : List Opened → Option OpenMap × List ℕ → Walk
walk_with nest both = record { nest = nest; operation = both.0; out = both.1 }

-- the walk behind a lexeme, by its part and its bytes; none where no elements can be told apart
abbrev pub walk_behind : Walk → Part → List ℕ → Option Walk
walk_behind walk part spelled =
    option_map
    (λ after. walk_with after.0
    (operation_and_text walk.operation (walk.out ++ spelled) (step_to walk part after)))
    (follow walk.nest part)

-- the text so far, up to the operation whose map is open
abbrev pub kept : Option OpenMap → List ℕ → List ℕ
kept (Some operation) out = take operation.start out
kept None out = out

-- that, and the rest of the text as it is
abbrev pub finished : List ℕ → Option OpenMap → List ℕ → List ℕ
finished text operation out = kept operation out ++ drop (length (kept operation out)) text

-- on with the walk behind a lexeme, or else the end of the one before it
abbrev pub on_or_finished : (text : List ℕ) → Walk → (Walk → List ℕ) → Option Walk → List ℕ
on_or_finished text walk on (Some next) = on next
on_or_finished text walk on None = finished text walk.operation walk.out

-- the text behind all of these lexemes
abbrev pub walked : List ℕ → List Lexed → Walk → List ℕ
walked text [] walk = finished text walk.operation walk.out
walked text (l ∷ more) walk =
    on_or_finished text walk (walked text more)
    (walk_behind walk (part_of l.kind l.spelled l.behind) l.spelled)

-- the text without its unread pairs
abbrev pub without_unread : List ℕ → List ℕ
without_unread text = walked text (lexemes_in text) walk_start

-- a token
abbrev pub is_token : Lexeme → Bool
is_token Token = true
is_token kind = false

-- no token of the text is refused by itself
abbrev pub HasNoRefused : List ℕ → Type 0
HasNoRefused text =
    list_all (λ l. not (is_token l.kind && is_refused l.spelled)) (lexemes_in text) ≡ true
