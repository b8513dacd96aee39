-- Lists and vectors whose elements are taken one by one, as they are read (this project's own).
use Rattle.std.specs.Prelude.{◌≡◌, ℕ, suc, ◌-◌, ◌==◌, if◌then◌else◌, length, List, [], ◌∷◌, ◌++◌}
use Rattle.std.specs.Prelude.{Option, Some, None, Result, Ok}
use Rattle.jh_edn.specs.declared.syntax_error.SyntaxError.{SyntaxError}
use Rattle.jh_edn.specs.declared.syntax_error.SyntaxErrorKind.TheVariants.{UnexpectedEnd}
use Rattle.jh_edn.specs.Edn.{Edn, elements_of}
use Rattle.jh_edn.specs.Reading.{Read, ◌>>=◌, syntax_error, items, gap, read}
use Rattle.jh_edn.specs.Spelling.{Reads, depth_limit}
use Rattle.jh_edn.specs.Bytes.{open_paren, close_paren, open_bracket, close_bracket}

-- an element, and what follows it
abbrev pub one_item : Edn × List ℕ → Result (Option Edn × List ℕ) SyntaxError
one_item x = Ok (Some x.0, x.1)

-- the closing bracket, which is no element, or an element: UnexpectedEnd at the end
abbrev pub item_step : ℕ → Read Edn → Read (Option Edn)
item_step close value [] = syntax_error UnexpectedEnd []
item_step close value (c ∷ s) = if c == close then Ok (None, s) else (value (c ∷ s) >>= one_item)

-- what stands next inside a bracket, behind a gap, with brackets, tags and discards nested no
-- deeper than that
abbrev pub item_or_end : ℕ → ℕ → Read (Option Edn)
item_or_end close depth s = gap depth s >>= item_step close (read depth)

-- the bracket that closes the list or the vector that the text begins with
abbrev pub closing_bracket : List ℕ → Option ℕ
closing_bracket [] = None
closing_bracket (c ∷ s) =
    if c == open_paren then Some close_paren else if c == open_bracket then Some close_bracket
    else None

-- the elements of a list or a vector that stands in no bracket, up to the closing one
abbrev pub elements_to : ℕ → Read (List Edn)
elements_to close s =
    items close (gap (depth_limit - 1)) (read (depth_limit - 1)) (suc (length s)) s

-- Who had taken some elements has then taken these behind them.
abbrev pub Takes : (List Edn → Type 0) → (List Edn → Type 0) → List Edn → Type 0
Takes HadTaken HasTaken elements =
    (before : List Edn) → HadTaken before → HasTaken (before ++ elements)

-- From `at` to `end` a list or a vector is read, and its elements are taken.
abbrev pub TakesSequence : (List Edn → Type 0) → (List Edn → Type 0) → List ℕ → ℕ → ℕ → Type 0
TakesSequence HadTaken HasTaken text at end =
    (x : Edn) × (elements : List Edn) × Reads text at x end × (elements_of x ≡ Some elements)
    × Takes HadTaken HasTaken elements

-- No list and no vector is read there.
abbrev pub ReadsNoSequence : List ℕ → ℕ → Type 0
ReadsNoSequence text at = (x : Edn) (end : ℕ) → Reads text at x end → elements_of x ≡ None
