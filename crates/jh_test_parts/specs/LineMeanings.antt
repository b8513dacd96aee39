-- What a line means by itself that is read: its bytes are one element of EDN, or none. This project's own;
-- operations are Jepsen's (jepsen.history).
use Rattle.std.specs.Prelude.{ℕ, Bool, not, ℤ, pos, List}
use Rattle.std.specs.Prelude.{[], ◌∷◌, codes, filter, Option, None, Some, Result, Ok, Err}
use Rattle.std.specs.Prelude.{if◌then◌else◌}
use Rattle.std.specs.List.{list_any}
use Rattle.std.specs.Str.{is_utf8}
use Rattle.jh_edn.specs.Edn.{Edn, integer_of, is_keyword}
use Rattle.jh_edn.specs.Lines.{values_in}
use Rattle.jh_edn.specs.Reading.{error_at, line_at}
use Rattle.jh_edn.specs.declared.error.EdnError.{EdnError}
use Rattle.jh_edn.specs.declared.error.EdnError.TheVariants as edn
use Rattle.jh_ops.specs.Operation.{Operation}
use Rattle.jh_ops.specs.OperationText.{parsed_op}
use Rattle.jh_ops.specs.declared.op_text.OpError.{OpError}
use Rattle.jh_test_parts.specs.declared.complaints.Complaint.{Complaint}
use Rattle.jh_test_parts.specs.declared.complaints.Complaint.TheVariants as complaint
use Rattle.jh_ops.specs.Operation.{operation}
use Rattle.jh_test_parts.specs.declared.line.LineMeaning.{LineMeaning}
use Rattle.jh_test_parts.specs.declared.line.LineMeaning.TheVariants as meant

-- What a line means by itself: nothing, where it has no element; a time in nanoseconds; stop; an
-- operation, with its time, where it has one; or it is no reply, for a reason.
pub data MeaningValue : Type 0 where
  Nothing : MeaningValue
  Clock : ℕ → MeaningValue
  Stop : MeaningValue
  Op : Operation → Option ℕ → MeaningValue
  Bad : Complaint → MeaningValue

-- a key of an operation that a conversation gives by itself
abbrev pub is_own_key : Edn → Bool
is_own_key key =
    list_any (λ name. is_keyword name key) (codes "time" ∷ codes "index" ∷ codes "node" ∷ [])

-- the pairs that are kept as they stand
abbrev pub is_kept : Edn × Edn → Bool
is_kept pair = not (is_own_key pair.0)

abbrev pub pairs_kept : List (Edn × Edn) → List (Edn × Edn)
pairs_kept pairs = filter is_kept pairs

abbrev pub kept_pairs : Operation → List (Edn × Edn)
kept_pairs op = pairs_kept op.rest

-- a `:time` that is no integer stands among the other pairs
abbrev pub has_odd_time : Operation → Bool
has_odd_time op = list_any (λ pair. is_keyword (codes "time") pair.0) op.rest

abbrev pub meaning_at_time : Operation → Option ℤ → MeaningValue
meaning_at_time op None = if has_odd_time op then Bad complaint.BadTime else Op op None
meaning_at_time op (Some (pos time)) = Op op (Some time)
meaning_at_time op (Some _) = Bad complaint.BadTime

abbrev pub meaning_of_parsed : Result Operation OpError → MeaningValue
meaning_of_parsed (Ok op) = meaning_at_time op op.time
meaning_of_parsed (Err refusal) = Bad (complaint.Op refusal)

abbrev pub meaning_of_operation : Edn → MeaningValue
meaning_of_operation value = meaning_of_parsed (parsed_op value)

-- what an integer means
abbrev pub meaning_of_number : ℤ → MeaningValue
meaning_of_number (pos time) = Clock time
meaning_of_number _ = Bad complaint.BadTime

-- what a value means, which may be an integer
abbrev pub meaning_of_number_or : Edn → Option ℤ → MeaningValue
meaning_of_number_or value (Some number) = meaning_of_number number
meaning_of_number_or value None =
    if is_keyword (codes "stop") value then Stop else meaning_of_operation value

abbrev pub meaning_of_value : Edn → MeaningValue
meaning_of_value value = meaning_of_number_or value (integer_of value)

abbrev pub meaning_of_values : List Edn → MeaningValue
meaning_of_values [] = Nothing
meaning_of_values (value ∷ []) = meaning_of_value value
meaning_of_values values = Bad complaint.MoreThanOne

-- what a text means by what was read of it, or by its first error
abbrev pub meaning_of_read : {E : Type 0} → (E → EdnError) → Result (List Edn) E → MeaningValue
meaning_of_read error (Ok values) = meaning_of_values values
meaning_of_read error (Err e) = Bad (complaint.Edn (error e))

-- what the bytes of a line mean
abbrev pub line_meaning : List ℕ → MeaningValue
line_meaning bytes =
    if is_utf8 bytes
    then meaning_of_read (λ e. error_at e.kind (line_at bytes e.left)) (values_in bytes)
    else Bad (complaint.Edn edn.Utf8)

-- what a line means, as the program holds it
abbrev pub line_meaning_by : LineMeaning → MeaningValue
line_meaning_by meant.Nothing = Nothing
line_meaning_by (meant.Clock time) = Clock time
line_meaning_by meant.Stop = Stop
line_meaning_by (meant.Op op time) = Op (operation op) time
line_meaning_by (meant.Bad why) = Bad why
