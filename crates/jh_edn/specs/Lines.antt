-- The values of a whole text as a function, which gives the first error where there is one (this
-- project's own; by a law these are the values that the text spells).
use Rattle.std.specs.Prelude.{◌≡◌, ℕ, zero, suc, ◌+◌, ◌-◌, List, [], ◌∷◌, length, Result, Ok, Err}
use Rattle.jh_edn.specs.declared.error.EdnError.{EdnError}
use Rattle.jh_edn.specs.declared.place.FirstError.{FirstError}
use Rattle.jh_edn.specs.declared.syntax_error.SyntaxError.{SyntaxError}
use Rattle.jh_edn.specs.Edn.{Edn}
use Rattle.jh_edn.specs.Reading.{◌>>=◌, gap, read, error_at, line_at}
use Rattle.jh_edn.specs.Spelling.{depth_limit}

-- a value before those that follow
abbrev pub with_first : Edn → Result (List Edn) SyntaxError → Result (List Edn) SyntaxError
with_first x more = more >>= λ xs. Ok (x ∷ xs)

-- behind a gap: nothing at the end, or a value and more
abbrev pub values_behind : (List ℕ → Result (List Edn) SyntaxError) → List ℕ
    → Result (List Edn) SyntaxError
values_behind more [] = Ok []
values_behind more (c ∷ s) = read depth_limit (c ∷ s) >>= λ x. with_first x.0 (more x.1)

-- gaps and values up to the end, at most so many values
abbrev pub values_from : ℕ → List ℕ → Result (List Edn) SyntaxError
values_from zero s = Ok []
values_from (suc n) s = gap depth_limit s >>= values_behind (values_from n)

-- all values of a text: one more turn than the bytes is enough
abbrev pub values_in : List ℕ → Result (List Edn) SyntaxError
values_in text = values_from (length text + 1) text

-- the text's first error is this error, with its line
pub record IsFirstErrorIn (text : List ℕ) (e : EdnError) : Type 0 where
  pub found : SyntaxError
  pub is_first : values_in text ≡ Err found
  pub is : e ≡ error_at found.kind (line_at text found.left)

-- this error is the text's first, and stands at this place, in bytes from the start
pub record IsFirstErrorAndPlace (text : List ℕ) (first : FirstError) : Type 0 where
  pub found : SyntaxError
  pub is_first : values_in text ≡ Err found
  pub error : first.error ≡ error_at found.kind (line_at text found.left)
  pub place : first.place ≡ length text - found.left

-- each value of the text can be read
abbrev pub HasNoError : List ℕ → Type 0
HasNoError text = (values : List Edn) × (values_in text ≡ Ok values)
