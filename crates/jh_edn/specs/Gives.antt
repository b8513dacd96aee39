-- How the reader's functions relate to the reading of Reading: what they return is what it gives.
-- This project's own.
use Rattle.std.specs.Prelude.{◌≡◌, ℕ, ◌<◌, length, List, [], ◌∷◌, Result, Ok, Err}
use Rattle.std.specs.Str.{IsUtf8}
use Rattle.jh_edn.specs.declared.syntax_error.SyntaxError.{SyntaxError}
use Rattle.jh_edn.specs.declared.syntax_error.SyntaxErrorKind.TheVariants as kinds
use Rattle.jh_edn.specs.declared.syntax_error.ReadError.{ReadError}
use Rattle.jh_edn.specs.declared.syntax_error.ReadError.TheVariants as errors
use Rattle.jh_edn.specs.declared.string.Stop.{Stop}
use Rattle.jh_edn.specs.declared.string.Stop.TheVariants.{End, Close, Escape, BadEscape}
use Rattle.jh_edn.specs.Bytes.{IsAscii}
use Rattle.jh_edn.specs.Reading.{body, syntax_error, read_with_front}

-- reading gives this error, unless memory ran out
abbrev pub Fails : {Y : Type 0} → ReadError → Result Y SyntaxError → Type 0
Fails errors.Memory read = Unit {0}
Fails (errors.Syntax f) read = read ≡ Err f

-- what a function returned, seen by view, is what reading gives, unless memory ran out
abbrev pub Gives : {X Y : Type 0} → (X → Y) → Result X ReadError → Result Y SyntaxError → Type 0
Gives view (Ok x) read = read ≡ Ok (view x)
Gives view (Err e) read = Fails e read

-- what a string's rest gives where its plain bytes stop
abbrev pub rest_at_stop : Stop → List ℕ → Result (List ℕ × List ℕ) SyntaxError
rest_at_stop End s = syntax_error kinds.UnexpectedEnd []
rest_at_stop (Close after) s = Ok ([], after.now)
rest_at_stop (Escape c after) s = read_with_front (c ∷ []) (body after.now)
rest_at_stop BadEscape s = syntax_error kinds.BadEscape s

-- what is left after a stop is text, and shorter where the string goes on
abbrev pub IsShorter : Stop → List ℕ → Type 0
IsShorter End s = Unit {0}
IsShorter (Close after) s = IsUtf8 after.now
IsShorter (Escape c after) s = (length after.now < length s) × IsAscii c × IsUtf8 after.now
IsShorter BadEscape s = Unit {0}
