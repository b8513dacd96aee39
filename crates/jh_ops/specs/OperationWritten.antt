-- The value that is written of an operation (the keys are those of jepsen.history; their order is
-- this project's own).
use Rattle.std.specs.Prelude.{◌≡◌, ℕ, ◌^◌, ◌<◌, ℤ, pos, List, [], ◌∷◌, ◌++◌, codes, Option, Some}
use Rattle.std.specs.Prelude.{None, Ok}
use Rattle.jh_edn.specs.Edn.{Edn, int, keyword, mapping, members_of}
use Rattle.jh_ops.specs.Operation.{Operation}
use Rattle.jh_ops.specs.OperationText.{parsed_op}
use Rattle.jh_ops.specs.declared.operation.Kind.{Kind}
use Rattle.jh_ops.specs.declared.operation.Process.{Process}

abbrev pub kind_name : Kind → List ℕ
kind_name Kind.Invoke = codes "invoke"
kind_name Kind.Ok = codes "ok"
kind_name Kind.Fail = codes "fail"
kind_name Kind.Info = codes "info"

abbrev pub process_value : Process → Edn
process_value (Process.Client number) = int (pos number)
process_value Process.Nemesis = keyword (codes "nemesis")

-- a client's number that is an integer of a text
abbrev pub IsWritable : Process → Type 0
IsWritable (Process.Client number) = number < 2 ^ 63
IsWritable Process.Nemesis = Unit {0}

-- a part with an integer, where there is one
abbrev pub integer_pairs : List ℕ → Option ℤ → List (Edn × Edn)
integer_pairs name None = []
integer_pairs name (Some z) = (keyword name, int z) ∷ []

-- the parts that each operation has
abbrev pub four_pairs : Operation → List (Edn × Edn)
four_pairs op =
    (keyword (codes "type"), keyword (kind_name op.kind))
    ∷ (keyword (codes "process"), process_value op.process)
    ∷ (keyword (codes "f"), op.f) ∷ (keyword (codes "value"), op.value) ∷ []

abbrev pub pairs_written : Operation → List (Edn × Edn)
pairs_written op =
    integer_pairs (codes "index") op.index
    ++ (integer_pairs (codes "time") op.time ++ (four_pairs op ++ op.rest))

abbrev pub value_written : Operation → Edn
value_written op = mapping (members_of (pairs_written op))

-- an operation that is parsed from some value is parsed again from what is written of it
abbrev pub OperationsReadBack : Type 0
OperationsReadBack =
    (value : Edn) (op : Operation) → parsed_op value ≡ Ok op → parsed_op (value_written op) ≡ Ok op
