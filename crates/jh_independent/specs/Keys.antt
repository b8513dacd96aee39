-- The keys of a history, and the history of each (jepsen.independent: a value is a tuple of a key
-- and a value, and the history of a key has the operations with that key, their values without it).
-- That a list of two will do as well as a vector, that the nemesis is left out, and the order of
-- the keys are this project's own. Places count from 0.
use Rattle.std.specs.Prelude.{◌≡◌, ℕ, ◌&&◌, Bool, true, false, not, List, [], ◌∷◌, map, filter}
use Rattle.std.specs.Prelude.{take, slice_get, if◌then◌else◌, Option, Some, None, is_some}
use Rattle.std.specs.Prelude.{option_map, option_and_then, All, filter_map}
use Rattle.std.specs.List.{enumerate_from}
use Rattle.std.specs.Option.{option_map_or}
use Rattle.jh_edn.specs.Edn.{Edn, nil, elements_of}
use Rattle.jh_edn.specs.Normal.{normal}
use Rattle.jh_ops.specs.Operation.{Operation, is_client, operation_with_value}
use Rattle.jh_check.specs.Distinct.{is_same, set_of}

-- ---- tuples

-- two, and nothing else
abbrev pub two_of : List Edn → Option (Edn × Edn)
two_of (key ∷ value ∷ []) = Some (key, value)
two_of _ = None

-- the key and the value of a tuple, which is a vector or a list of two
abbrev pub tuple_of : Edn → Option (Edn × Edn)
tuple_of value = option_and_then two_of (elements_of value)

-- what a client did has no tuple for its value
abbrev pub is_bad : Operation → Bool
is_bad op = is_client op.process && not (is_some (tuple_of op.value))

-- each client's operation has a tuple
abbrev pub AreTuples : List Operation → Type 0
AreTuples history = All (λ op. is_bad op ≡ false) history

-- the least place of one that has none
abbrev pub IsFirstBad : List Operation → ℕ → Type 0
IsFirstBad history place =
    (op : Operation) × (slice_get history place ≡ Some op) × (is_bad op ≡ true)
    × AreTuples (take place history)

-- ---- keys

-- the key of what a client did, in normal form
abbrev pub client_key : Operation → Option Edn
client_key op =
    if is_client op.process then option_map (λ tuple. normal tuple.0) (tuple_of op.value) else None

-- the keys of a history, each once, in normal order
abbrev pub history_keys : List Operation → List Edn
history_keys history = set_of (filter_map client_key history)

-- a client did it with this key, which is in normal form
abbrev pub has_key : Edn → Operation → Bool
has_key key op = option_map_or (is_same key) (client_key op) false

-- what was done with a key, and where
abbrev pub placed_operations : Edn → List Operation → List (ℕ × Operation)
placed_operations key history = filter (λ placed. has_key key placed.1) (enumerate_from 0 history)

-- the places of a key in the whole history
abbrev pub places_of : Edn → List Operation → List ℕ
places_of key history = map (λ placed. placed.0) (placed_operations key history)

-- ---- the history of a key

-- the value behind the key
abbrev pub value_of : Edn → Edn
value_of value = option_map_or (λ tuple. tuple.1) (tuple_of value) nil

-- the operation without its key
abbrev pub operation_without_key : Operation → Operation
operation_without_key op = operation_with_value (value_of op.value) op

abbrev pub history_of : Edn → List Operation → List Operation
history_of key history =
    map (λ placed. operation_without_key placed.1) (placed_operations key history)

-- a key with its history
abbrev pub key_with_history : List Operation → Edn → Edn × List Operation
key_with_history history key = (key, history_of key history)

-- all keys with their histories, in the order of the keys
abbrev pub histories_of : List Operation → List (Edn × List Operation)
histories_of history = map (key_with_history history) (history_keys history)
