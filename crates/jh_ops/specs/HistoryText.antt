-- Histories as EDN values (Jepsen writes one operation after another to `history.edn`; that a
-- single sequence may hold them is this project's own). Places count from 0.
use Rattle.std.specs.Prelude.{◌≡◌, ℕ, ◌<◌, ◌≤◌, List, [], ◌∷◌, map, slice_get, Some, unwrap_or}
use Rattle.std.specs.Prelude.{Result, Ok, Err}
use Rattle.jh_edn.specs.Edn.{Edn, elements_of, untagged_value}
use Rattle.jh_ops.specs.Operation.{Operation}
use Rattle.jh_ops.specs.OperationText.{parsed_op}
use Rattle.jh_ops.specs.declared.history.HistoryError.{HistoryError}
use Rattle.jh_ops.specs.declared.history.HistoryError.TheVariants.{Op, OutOfMemory}
use Rattle.jh_ops.specs.declared.op_text.OpError.{OpError}

-- the values that are parsed as operations: a single sequence stands for its elements, whatever
-- tags are around it
abbrev pub elements_in : List Edn → List Edn
elements_in (value ∷ []) =
    unwrap_or (elements_of (untagged_value value)) (untagged_value value ∷ [])
elements_in values = values

-- each of them, parsed
abbrev pub parsed_elements : List Edn → List (Result Operation OpError)
parsed_elements values = map parsed_op (elements_in values)

-- they are parsed as these operations, each one
abbrev pub AreParsed : List Edn → List Operation → Type 0
AreParsed values ops = parsed_elements values ≡ map Ok ops

-- the one at a place is parsed
abbrev pub IsParsedAt : List Edn → ℕ → Type 0
IsParsedAt values place =
    (op : Operation) × (slice_get (parsed_elements values) place ≡ Some (Ok op))

-- Why a history is refused: at the first place where no operation is parsed. `OutOfMemory` is
-- possible only at a place up to which operations are parsed.
abbrev pub RefusesValues : List Edn → HistoryError → Type 0
RefusesValues values (Op place refusal) =
    (slice_get (parsed_elements values) place ≡ Some (Err refusal))
    × ((earlier : ℕ) → earlier < place → IsParsedAt values earlier)
RefusesValues values OutOfMemory =
    (place : ℕ) × ((earlier : ℕ) → earlier ≤ place → IsParsedAt values earlier)

-- the refusal of a history with this refusal at a place
abbrev pub history_error_at : ℕ → OpError → HistoryError
history_error_at place OpError.OutOfMemory = OutOfMemory
history_error_at place refusal = Op place refusal
