-- What the pairs of a map say of the parts of an operation, all of them at once and pair by pair.
-- This project's own.
use Rattle.std.specs.Prelude.{◌≡◌, true, ℕ, ℤ, List, [], ◌∷◌, ◌++◌, codes, filter, Option}
use Rattle.std.specs.Prelude.{Some, None, option_map, ok_or, Result, if◌then◌else◌}
use Rattle.std.specs.Option.{option_or}
use Rattle.std.specs.Str.{bytes_eq}
use Rattle.jh_edn.specs.Edn.{Edn, int, keyword, value_under}
use Rattle.jh_edn.specs.View.{view, view_pairs}
use Rattle.jh_ops.specs.OperationText.{integer_under, is_other, kind_of_value, process_of}
use Rattle.jh_ops.specs.OperationText.{result_of_needed}
use Rattle.jh_ops.specs.declared.op_text.OpError.{OpError}
use Rattle.jh_ops.specs.declared.op_text.OpError.TheVariants.{MissingType, BadType}
use Rattle.jh_ops.specs.declared.op_text.OpError.TheVariants.{MissingProcess, BadProcess}
use Rattle.jh_ops.specs.declared.operation.Kind.{Kind}
use Rattle.jh_ops.specs.declared.operation.Process.{Process}
use Rattle.jh_ops.specs.declared.op_text.Field.{Field}
use Rattle.jh_ops.specs.declared.op_text.Field.TheVariants as fields
use Rattle.jh_ops.specs.declared.op_text.Fields.{Fields}

-- what is said of each part
pub record FieldsValue : Type 0 where
  pub kind : Option Edn
  pub f : Option Edn
  pub process : Option Edn
  pub value : Option Edn
  pub time : Option ℤ
  pub index : Option ℤ
  pub rest : List (Edn × Edn)

abbrev pub no_fields : FieldsValue
no_fields =
    record {
      kind = None;
      f = None;
      process = None;
      value = None;
      time = None;
      index = None;
      rest = [];
    }

-- what all the pairs say
abbrev pub fields_of : List (Edn × Edn) → FieldsValue
fields_of pairs =
    record {
      kind = value_under (codes "type") pairs;
      f = value_under (codes "f") pairs;
      process = value_under (codes "process") pairs;
      value = value_under (codes "value") pairs;
      time = integer_under (codes "time") pairs;
      index = integer_under (codes "index") pairs;
      rest = filter is_other pairs;
    }

-- which part a pair is
abbrev pub time_field : Edn → Field
time_field (int z) = fields.Time z
time_field _ = fields.Other

abbrev pub index_field : Edn → Field
index_field (int z) = fields.Index z
index_field _ = fields.Other

abbrev pub field_named : List ℕ → Edn → Field
field_named name value =
    if bytes_eq name (codes "type") then fields.Kind
    else if bytes_eq name (codes "f") then fields.F
    else if bytes_eq name (codes "process") then fields.Process
    else if bytes_eq name (codes "value") then fields.Value
    else if bytes_eq name (codes "time") then time_field value
    else if bytes_eq name (codes "index") then index_field value
    else fields.Other

abbrev pub field_of : Edn → Edn → Field
field_of (keyword name) value = field_named name value
field_of _ value = fields.Other

-- what is said once a pair that is this part was added: the first that says a part counts
abbrev pub with_field : FieldsValue → Field → Edn × Edn → FieldsValue
with_field said fields.Kind pair = record said { kind = option_or said.kind (Some pair.1) }
with_field said fields.F pair = record said { f = option_or said.f (Some pair.1) }
with_field said fields.Process pair = record said { process = option_or said.process (Some pair.1) }
with_field said fields.Value pair = record said { value = option_or said.value (Some pair.1) }
with_field said (fields.Time z) pair = record said { time = option_or said.time (Some z) }
with_field said (fields.Index z) pair = record said { index = option_or said.index (Some z) }
with_field said fields.Other pair = record said { rest = said.rest ++ pair ∷ [] }

abbrev pub with_pair : FieldsValue → Edn × Edn → FieldsValue
with_pair said pair = with_field said (field_of pair.0 pair.1) pair

-- the kind that is said by what stands under `:type`
abbrev pub kind_under : Option Edn → Result Kind OpError
kind_under value = result_of_needed value MissingType (λ value. ok_or (kind_of_value value) BadType)

-- the process that is said by what stands under `:process`
abbrev pub process_under : Option Edn → Result Process OpError
process_under value =
    result_of_needed value MissingProcess (λ value. ok_or (process_of value) BadProcess)

-- A program holds what is said; the other pairs unless memory was refused for them.
pub record Holds (held : Fields) (said : FieldsValue) : Type 0 where
  pub kind : option_map view held.kind ≡ said.kind
  pub f : option_map view held.f ≡ said.f
  pub process : option_map view held.process ≡ said.process
  pub value : option_map view held.value ≡ said.value
  pub time : held.time ≡ said.time
  pub index : held.index ≡ said.index
  pub rest : held.is_whole ≡ true → view_pairs held.rest.items ≡ said.rest
