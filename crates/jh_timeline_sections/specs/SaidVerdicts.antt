-- The verdict that a text says, as `run` and `drive` print it behind a history (this project's own):
-- that of the last of its lines that begins as the line of a checker does.
use Rattle.std.specs.Prelude.{ℕ, zero, suc, ◌-◌, ◌==◌, ◌||◌, Bool, nat_eq, List, codes, drop, length}
use Rattle.std.specs.Prelude.{if◌then◌else◌, get_or, Option, Some, None}
use Rattle.std.specs.List.{starts_with}
use Rattle.std.specs.Option.{option_or}
use Rattle.jh_check.specs.declared.verdict.Verdict.{Verdict}

-- what the line of a checker begins with, by its verdict
abbrev pub line_begin : Verdict → List ℕ
line_begin Verdict.True = codes "{:valid? true"
line_begin Verdict.False = codes "{:valid? false"
line_begin Verdict.Unknown = codes "{:valid? :unknown"

-- the verdict that a text begins with, if it does
abbrev pub begun_verdict : List ℕ → Option Verdict
begun_verdict text =
    if starts_with nat_eq text (line_begin Verdict.True) then Some Verdict.True
    else if starts_with nat_eq text (line_begin Verdict.False) then Some Verdict.False
    else if starts_with nat_eq text (line_begin Verdict.Unknown) then Some Verdict.Unknown
    else None

-- a line begins at a place: at the first, or behind a line feed
abbrev pub begins_line : List ℕ → ℕ → Bool
begins_line text at = at == 0 || get_or text (at - 1) 0 == 10

-- the verdict of the line that begins at a place, if one does
abbrev pub said_at : List ℕ → ℕ → Option Verdict
said_at text at = if begins_line text at then begun_verdict (drop at text) else None

-- that of the last line that begins before a place and says one
abbrev pub said_before : List ℕ → ℕ → Option Verdict
said_before text zero = None
said_before text (suc at) = option_or (said_at text at) (said_before text at)

-- the verdict that a text says, if it says one
abbrev pub said_verdict : List ℕ → Option Verdict
said_verdict text = said_before text (length text)
