-- Operations as EDN values (jepsen.history: an operation is a map; which keys have to be there,
-- what is ignored and what is kept as it stands are this project's own).
use Rattle.std.specs.Prelude.{◌≡◌, ℕ, ◌⊎◌, ◌&&◌, Bool, not, ℤ, pos, List, [], ◌∷◌, codes, filter}
use Rattle.std.specs.Prelude.{find, if◌then◌else◌, Option, Some, None, option_and_then, ok_or}
use Rattle.std.specs.Prelude.{unwrap_or, Result, Ok, Err, MatchResult, IsOk}
use Rattle.std.specs.List.{list_any}
use Rattle.std.specs.Str.{bytes_eq}
use Rattle.jh_edn.specs.Edn.{Edn, nil, int, keyword, is_keyword, is_integer, integer_of}
use Rattle.jh_edn.specs.Edn.{map_pairs, untagged_value, value_under}
use Rattle.jh_ops.specs.Operation.{Operation, operation}
use Rattle.jh_ops.specs.declared.op_text.OpError.{OpError}
use Rattle.jh_ops.specs.declared.op_text.OpError.TheVariants.{NotMap, MissingType, BadType}
use Rattle.jh_ops.specs.declared.op_text.OpError.TheVariants.{MissingF, MissingProcess, BadProcess}
use Rattle.jh_ops.specs.declared.op_text.OpError.TheVariants.{OutOfMemory}
use Rattle.jh_ops.specs.declared.operation.Kind.{Kind}
use Rattle.jh_ops.specs.declared.operation.Op.{Op}
use Rattle.jh_ops.specs.declared.operation.Process.{Process}

-- an integer under a keyword
abbrev pub is_integer_under : List ℕ → Edn × Edn → Bool
is_integer_under name pair = is_keyword name pair.0 && is_integer pair.1

-- the integer under a keyword: that of the first pair with both
abbrev pub integer_under : List ℕ → List (Edn × Edn) → Option ℤ
integer_under name pairs =
    option_and_then (λ pair. integer_of pair.1) (find (is_integer_under name) pairs)

-- the key of a part that every operation has, of whatever value
abbrev pub is_common_key : Edn → Bool
is_common_key key =
    list_any (λ name. is_keyword name key)
    (codes "type" ∷ codes "process" ∷ codes "f" ∷ codes "value" ∷ [])

-- a key that is a part where its value is an integer
abbrev pub is_integer_key : Edn → Bool
is_integer_key key = list_any (λ name. is_keyword name key) (codes "time" ∷ codes "index" ∷ [])

-- a pair that is no part of its own, and is kept as it stands
abbrev pub is_other : Edn × Edn → Bool
is_other pair = not (is_common_key pair.0) && not (is_integer_key pair.0 && is_integer pair.1)

abbrev pub kind_named : List ℕ → Option Kind
kind_named name =
    if bytes_eq name (codes "invoke") then Some Kind.Invoke
    else if bytes_eq name (codes "ok") then Some Kind.Ok
    else if bytes_eq name (codes "fail") then Some Kind.Fail
    else if bytes_eq name (codes "info") then Some Kind.Info
    else None

abbrev pub kind_of_value : Edn → Option Kind
kind_of_value (keyword name) = kind_named name
kind_of_value _ = None

-- a client's number from 0, or `:nemesis`
abbrev pub process_of : Edn → Option Process
process_of (int (pos number)) = Some (Process.Client number)
process_of (keyword name) = if bytes_eq name (codes "nemesis") then Some Process.Nemesis else None
process_of _ = None

-- what follows from a part that has to be there, or else the refusal
abbrev pub result_of_needed : {A B : Type 0} → Option A → OpError → (A → Result B OpError)
    → Result B OpError
result_of_needed None refusal follows = Err refusal
result_of_needed (Some part) refusal follows = follows part

-- the operation of these parts and of the pairs of its map
abbrev pub op_of_fields : Kind → Edn → Process → List (Edn × Edn) → Operation
op_of_fields kind f process pairs =
    record {
      kind = kind;
      process = process;
      f = f;
      value = unwrap_or (value_under (codes "value") pairs) nil;
      time = integer_under (codes "time") pairs;
      index = integer_under (codes "index") pairs;
      rest = filter is_other pairs;
    }

abbrev pub kind_in : List (Edn × Edn) → Result Kind OpError
kind_in pairs =
    result_of_needed (value_under (codes "type") pairs) MissingType
    (λ value. ok_or (kind_of_value value) BadType)

abbrev pub f_in : List (Edn × Edn) → Result Edn OpError
f_in pairs = ok_or (value_under (codes "f") pairs) MissingF

abbrev pub process_in : List (Edn × Edn) → Result Process OpError
process_in pairs =
    result_of_needed (value_under (codes "process") pairs) MissingProcess
    (λ value. ok_or (process_of value) BadProcess)

infixl 10 ◌>>=◌
-- what follows from a part, or else why there is none
abbrev pub ◌>>=◌ : {A B : Type 0} → Result A OpError → (A → Result B OpError) → Result B OpError
(Ok part) >>= follows = follows part
(Err refusal) >>= follows = Err refusal

-- the operation that the pairs of a map are, or the first refusal that applies
abbrev pub op_of_pairs : List (Edn × Edn) → Result Operation OpError
op_of_pairs pairs = do
  kind ← kind_in pairs
  f ← f_in pairs
  process ← process_in pairs
  Ok (op_of_fields kind f process pairs)

-- a value's operation, tags around its map ignored
abbrev pub parsed_op : Edn → Result Operation OpError
parsed_op value = result_of_needed (map_pairs (untagged_value value)) NotMap op_of_pairs

-- What was answered is what is parsed, unless memory was refused for what would have been an
-- operation.
abbrev pub IsOperationParsed : Result Op OpError → Result Operation OpError → Type 0
IsOperationParsed answer parsed =
    MatchResult answer (λ op. parsed ≡ Ok (operation op))
    (λ e. (parsed ≡ Err e) ⊎ ((e ≡ OutOfMemory) × IsOk parsed))
