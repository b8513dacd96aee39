-- What elements leave that are parsed one after another: operations, or the refusal of the first
-- that is none. They are several values of a text, or the elements of a single list or vector.
-- This project's own.
use Rattle.std.specs.Prelude.{◌≡◌, ℕ, ◌<◌, List, [], ◌∷◌, ◌++◌, length, map, All, Option, Some}
use Rattle.std.specs.Prelude.{None, Ok}
use Rattle.jh_edn.specs.Edn.{Edn, elements_of}
use Rattle.jh_edn.specs.Spelling.{Reads}
use Rattle.jh_histories.specs.declared.parsing.Parsing.{Parsing}
use Rattle.jh_ops.specs.HistoryText.{elements_in, RefusesValues}
use Rattle.jh_ops.specs.Operation.{Operation, operations}
use Rattle.jh_ops.specs.OperationText.{parsed_op}
use Rattle.jh_ops.specs.OperationWritten.{IsWritable}
use Rattle.jh_ops.specs.declared.history.HistoryError.{HistoryError}
use Rattle.jh_ops.specs.declared.history.HistoryError.TheVariants.{Op, OutOfMemory}

-- Each was parsed as its operation; or, whatever comes behind them, values that have these elements
-- first are refused so.
abbrev pub Leave : List Edn → List Operation → Option HistoryError → Type 0
Leave elements ops None = map parsed_op elements ≡ map Ok ops
Leave elements ops (Some refusal) =
    (values behind : List Edn) → elements_in values ≡ elements ++ behind
    → RefusesValues values refusal

-- The elements leave this, and the client numbers in it can be written.
abbrev pub HasParsed : Parsing → List Edn → Type 0
HasParsed parsing elements =
    Leave elements (operations parsing.ops.items) parsing.refusal
    × All (λ op. IsWritable op.process) parsing.ops.items

-- a list or a vector, without a tag
abbrev pub IsListOrVector : Edn → Type 0
IsListOrVector value = (elements : List Edn) × (elements_of value ≡ Some elements)

-- more than one, so that they are elements themselves
abbrev pub AreSeveral : List Edn → Type 0
AreSeveral values = 1 < length values

-- From `at` to `end` these values are read, each behind the one before.
abbrev pub ReadsEach : List ℕ → ℕ → List Edn → ℕ → Type 0
ReadsEach text at [] end = at ≡ end
ReadsEach text at (value ∷ values) end =
    (next : ℕ) × Reads text at value next × ReadsEach text next values end

-- Several values are read up to that place, and parsed.
abbrev pub IsBegun : List ℕ → ℕ → Parsing → Type 0
IsBegun text at parsing =
    (values : List Edn) × AreSeveral values × ReadsEach text 0 values at × HasParsed parsing values

-- why a value that stands alone means no history; memory may run out whatever it is
abbrev pub RefusesOne : Edn → HistoryError → Type 0
RefusesOne value OutOfMemory = Unit {0}
RefusesOne value (Op place refusal) = RefusesValues (value ∷ []) (Op place refusal)
