-- What the code finds of an operation, one part after another; `Forms` has the rule.
-- This project's own.
use Rattle.std.specs.Prelude.{ℕ, ◌==◌, nat_lt, ◌&&◌, Bool, true, false, ℤ, pos, List, [], ◌∷◌}
use Rattle.std.specs.Prelude.{codes, if◌then◌else◌, Option, Some, None, option_and_then, slice_get}
use Rattle.std.specs.Option.{option_map}
use Rattle.std.specs.List.{list_all}
use Rattle.std.specs.Str.{bytes_eq}
use Rattle.jh_edn.specs.Edn.{Edn, nil, int, keyword, vector, list_of, is_nil, is_integer, integer_of}
use Rattle.jh_ops.specs.Operation.{Operation}
use Rattle.jh_ops.specs.declared.call.Request.{Request}
use Rattle.jh_ops.specs.declared.call.Request.TheVariants.{Read, Write, Cas, Add, Generate, Txn}
use Rattle.jh_ops.specs.declared.operation.Kind.{Kind}
use Rattle.jh_ops.specs.declared.operation.Process.{Process}
use Rattle.jh_audit.specs.declared.forms.Form.{Form}
use Rattle.jh_audit.specs.declared.forms.Form.TheVariants.{Asks, Completes, Begins, Ends}
use Rattle.jh_audit.specs.Forms.{named_event}
use Rattle.jh_ops.specs.Pairing.{is_info}

abbrev pub name_in : Edn → List ℕ
name_in (keyword name) = name
name_in _ = []

-- the two integers that are all of a list
abbrev pub pair_among : List Edn → Option (ℤ × ℤ)
pair_among (int a ∷ int b ∷ []) = Some (a, b)
pair_among _ = None

abbrev pub pair_in : Edn → Option (ℤ × ℤ)
pair_in (vector xs) = pair_among (list_of xs)
pair_in _ = None

-- what a read may get: nil, an integer, or a vector of integers
abbrev pub is_read_value : Edn → Bool
is_read_value nil = true
is_read_value (int z) = true
is_read_value (vector xs) = list_all is_integer (list_of xs)
is_read_value _ = false

-- nil or an integer
abbrev pub is_one : Edn → Bool
is_one nil = true
is_one (int z) = true
is_one _ = false

-- the request that is asked by this name with this value
abbrev pub request_asked : List ℕ → Edn → Option Request
request_asked name value =
    if bytes_eq name (codes "read") then (if is_nil value then Some Read else None)
    else if bytes_eq name (codes "write") then option_map Write (integer_of value)
    else if bytes_eq name (codes "cas") then option_map (λ p. Cas p.0 p.1) (pair_in value)
    else if bytes_eq name (codes "add") then option_map Add (integer_of value)
    else if bytes_eq name (codes "generate") then (if is_nil value then Some Generate else None)
    else if bytes_eq name (codes "txn") then (if is_nil value then Some Txn else None)
    else None

-- the request of this name that was done, where its completion may have this value
abbrev pub request_done : List ℕ → Edn → Option Request
request_done name value =
    if bytes_eq name (codes "read") then (if is_read_value value then Some Read else None)
    else if bytes_eq name (codes "generate") then (if is_one value then Some Generate else None)
    else request_asked name value

-- the request of a client's completion
abbrev pub completed_request : Kind → List ℕ → Edn → Option Request
completed_request Kind.Invoke name value = None
completed_request Kind.Ok name value = request_done name value
completed_request Kind.Fail name value = request_asked name value
completed_request Kind.Info name value = request_asked name value

abbrev pub natural_in : ℤ → Option ℕ
natural_in (pos n) = Some n
natural_in _ = None

-- the entry that begins
abbrev pub begun_entry : Edn → Option ℕ
begun_entry value = option_and_then natural_in (integer_of value)

-- how many codes of answers to steps there are
abbrev pub answer_codes : ℕ
answer_codes = 8

abbrev pub is_code : ℤ → Bool
is_code (pos n) = nat_lt n answer_codes
is_code _ = false

-- the entry that has ended, with the code of an answer
abbrev pub ended_entry_by : ℤ × ℤ → Option ℕ
ended_entry_by p = if is_code p.1 then natural_in p.0 else None

abbrev pub ended_entry_in : Edn → Option ℕ
ended_entry_in value = option_and_then ended_entry_by (pair_in value)

-- the form of a client's operation and of the nemesis's, by the event that is named, if one is
abbrev pub client_form : ℕ → Kind → List ℕ → Edn → Option ℕ → Option Form
client_form process Kind.Invoke name value None =
    option_map (Asks process) (request_asked name value)
client_form process kind name value None = None
client_form process kind name value (Some number) =
    option_map (λ request. Completes process request number) (completed_request kind name value)

abbrev pub step_form : Edn → Option ℕ → Option Form
step_form value None = option_map Begins (begun_entry value)
step_form value (Some number) = option_map (λ entry. Ends entry number) (ended_entry_in value)

abbrev pub form_by : Process → Kind → List ℕ → Edn → Option ℕ → Option Form
form_by (Process.Client process) kind name value event = client_form process kind name value event
form_by Process.Nemesis kind name value event =
    if is_info kind && bytes_eq name (codes "step") then step_form value event else None

-- the event that these keys name, where they are `:event` alone or none at all
abbrev pub event_by : List (Edn × Edn) → Option (Option ℕ)
event_by [] = Some None
event_by (pair ∷ rest) = option_map Some (named_event (pair ∷ rest))

abbrev pub is_index_of : ℕ → Option ℤ → Bool
is_index_of place (Some (pos n)) = n == place
is_index_of place _ = false

abbrev pub is_none : Option ℤ → Bool
is_none None = true
is_none (Some z) = false

-- the form of an operation at its place
abbrev pub form_of : ℕ → Operation → Option Form
form_of place op =
    if is_index_of place op.index && is_none op.time
    then option_and_then (form_by op.process op.kind (name_in op.f) op.value) (event_by op.rest)
    else None

-- the form of the operation at a place of a history
abbrev pub form_at : List Operation → ℕ → Option Form
form_at history place = option_and_then (form_of place) (slice_get history place)
