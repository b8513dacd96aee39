-- The history that a text means (Jepsen writes one operation after another to `history.edn`; the
-- errors and their order are this project's own).
use Rattle.std.specs.Prelude.{ℕ, List}
use Rattle.std.specs.Str.{IsUtf8}
use Rattle.jh_edn.specs.Edn.{Edn}
use Rattle.jh_edn.specs.Spelling.{SpellsAll}
use Rattle.jh_edn.specs.Refused.{RefusesText, IsFirstIfInText}
use Rattle.jh_histories.specs.declared.error.ReadHistoryError.{ReadHistoryError}
use Rattle.jh_histories.specs.declared.error.ReadHistoryError.TheVariants.{Text, History}
use Rattle.jh_ops.specs.HistoryText.{AreParsed, RefusesValues}
use Rattle.jh_ops.specs.Operation.{Operation}
use Rattle.jh_ops.specs.declared.history.HistoryError.TheVariants.{Op, OutOfMemory}

-- The bytes are UTF-8, and these are the values that they spell.
abbrev pub AreValuesOf : List Edn → List ℕ → Type 0
AreValuesOf values text = IsUtf8 text × SpellsAll values text

-- The values of the text mean these operations.
abbrev pub IsHistoryOf : List ℕ → List Operation → Type 0
IsHistoryOf text history =
    (values : List Edn) × AreValuesOf values text × AreParsed values history

-- Why a text means no history: its first error, wherever it stands; or else the first of its values
-- that means no operation. Memory may run out in any text.
abbrev pub RefusesHistoryOf : List ℕ → ReadHistoryError → Type 0
RefusesHistoryOf text (Text error) = RefusesText text error × IsFirstIfInText text error
RefusesHistoryOf text (History OutOfMemory) = Unit {0}
RefusesHistoryOf text (History (Op place refusal)) =
    (values : List Edn) × AreValuesOf values text × RefusesValues values (Op place refusal)
