-- When a whole text is refused, and by which errors (this project's own).
use Rattle.std.specs.Prelude.{ℕ, List}
use Rattle.std.specs.Str.{IsUtf8}
use Rattle.jh_edn.specs.declared.error.EdnError.{EdnError}
use Rattle.jh_edn.specs.declared.error.EdnError.TheVariants.{UnexpectedEnd, BadToken}
use Rattle.jh_edn.specs.declared.error.EdnError.TheVariants.{FloatUnsupported, IntegerRange}
use Rattle.jh_edn.specs.declared.error.EdnError.TheVariants.{BadEscape, OddMap, DuplicateKey}
use Rattle.jh_edn.specs.declared.error.EdnError.TheVariants.{TooDeep, Utf8, TooLong, Read, Write}
use Rattle.jh_edn.specs.declared.error.EdnError.TheVariants.{OutOfMemory}
use Rattle.jh_edn.specs.Edn.{Edn}
use Rattle.jh_edn.specs.Spelling.{SpellsAll}
use Rattle.jh_edn.specs.Reading.{IsErrorBehind}

-- the bytes are UTF-8, and spell no list of values
abbrev pub SpellsNothing : List ℕ → Type 0
SpellsNothing bytes = IsUtf8 bytes × ((xs : List Edn) → SpellsAll xs bytes → ⊥)

-- These bytes are refused by this error: one with a line where they spell nothing, Utf8 where they
-- are no UTF-8. The others are about the reader and memory, and Write is about writers alone.
abbrev pub RefusesText : List ℕ → EdnError → Type 0
RefusesText bytes (UnexpectedEnd line) = SpellsNothing bytes
RefusesText bytes (BadToken line) = SpellsNothing bytes
RefusesText bytes (FloatUnsupported line) = SpellsNothing bytes
RefusesText bytes (IntegerRange line) = SpellsNothing bytes
RefusesText bytes (BadEscape line) = SpellsNothing bytes
RefusesText bytes (OddMap line) = SpellsNothing bytes
RefusesText bytes (DuplicateKey line) = SpellsNothing bytes
RefusesText bytes (TooDeep line) = SpellsNothing bytes
RefusesText bytes Utf8 = IsUtf8 bytes → ⊥
RefusesText bytes TooLong = Unit {0}
RefusesText bytes Read = Unit {0}
RefusesText bytes Write = ⊥
RefusesText bytes OutOfMemory = Unit {0}

-- An error that stands at a line of the text is its first; the other errors stand nowhere in it.
abbrev pub IsFirstIfInText : List ℕ → EdnError → Type 0
IsFirstIfInText bytes Utf8 = Unit {0}
IsFirstIfInText bytes TooLong = Unit {0}
IsFirstIfInText bytes Read = Unit {0}
IsFirstIfInText bytes Write = Unit {0}
IsFirstIfInText bytes OutOfMemory = Unit {0}
IsFirstIfInText bytes error = IsErrorBehind bytes error

-- what reading a reader's bytes can fail with
abbrev pub IsReaderError : EdnError → Type 0
IsReaderError TooLong = Unit {0}
IsReaderError Read = Unit {0}
IsReaderError OutOfMemory = Unit {0}
IsReaderError _ = ⊥
