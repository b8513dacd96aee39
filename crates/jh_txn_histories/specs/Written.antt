-- Micro-operations as histories of the workload list-append have them (Jepsen's page on
-- jepsen.tests.cycle.append): `[:append k v]` and `[:r k v]`, where k and v are any EDN values. That
-- nobody looks at what stands third in a read before it is answered, and that nil stands for the
-- empty list, are this project's own.
use Rattle.std.specs.Prelude.{Bool, true, false, ◌&&◌, ◌||◌, List, [], ◌∷◌, ◌++◌, codes}
use Rattle.std.specs.Prelude.{if◌then◌else◌, Option, Some, None, option_map, option_and_then}
use Rattle.std.specs.List.{list_any}
use Rattle.std.specs.Option.{option_map_or}
use Rattle.std.specs.Ordering.{is_eq}
use Rattle.jh_edn.specs.Edn.{Edn, nil, elements_of, is_keyword}
use Rattle.jh_edn.specs.Normal.{normal}
use Rattle.jh_edn.specs.Order.{edn_cmp}
use Rattle.jh_txn_histories.specs.declared.written.Stage.{Stage}
use Rattle.jh_txn_histories.specs.declared.written.Stage.TheVariants.{Asked, Answered}

-- a micro-operation: an append of an element to a key, or a read of a key with what it saw
pub data Written : Type 0 where
  append : Edn → Edn → Written
  read : Edn → List Edn → Written

-- what a read saw: the elements of a vector or a list; nil is the empty list
abbrev pub seen_of : Edn → Option (List Edn)
seen_of nil = Some []
seen_of value = elements_of value

-- a read of a key, with this in the third place
abbrev pub written_read : Stage → Edn → Edn → Option Written
written_read Asked key third = Some (read key [])
written_read Answered key third = option_map (read key) (seen_of third)

-- three parts, of which the first is the function
abbrev pub micro_op_of_parts : Stage → List Edn → Option Written
micro_op_of_parts stage (function ∷ key ∷ third ∷ []) =
    if is_keyword (codes "append") function then Some (append key third)
    else if is_keyword (codes "r") function then written_read stage key third
    else None
micro_op_of_parts stage _ = None

-- the micro-operation that a value spells
abbrev pub micro_op_of : Stage → Edn → Option Written
micro_op_of stage value = option_and_then (micro_op_of_parts stage) (elements_of value)

-- what f gives of each, where it gives something of all
abbrev pub each_found : {A B : Type 0} → (A → Option B) → List A → Option (List B)
each_found f [] = Some []
each_found f (x ∷ xs) =
    option_and_then (λ y. option_map (λ ys. y ∷ ys) (each_found f xs)) (f x)

-- the micro-operations that a value spells, a vector or a list of them
abbrev pub micro_ops_of : Stage → Edn → Option (List Written)
micro_ops_of stage value = option_and_then (each_found (micro_op_of stage)) (elements_of value)

-- The values are equal, as EDN says: their normal forms rank equal.
abbrev pub is_equal : Edn → Edn → Bool
is_equal one other = is_eq (edn_cmp (normal one) (normal other))

-- The second one answers the first one: it does the same, but for what a read saw.
abbrev pub is_answer : Written → Written → Bool
is_answer (append key element) (append other more) = is_equal key other && is_equal element more
is_answer (read key seen) (read other more) = is_equal key other
is_answer _ _ = false

-- as many, which answer one by one
abbrev pub are_answers : List Written → List Written → Bool
are_answers [] [] = true
are_answers (one ∷ asked) (other ∷ answers) = is_answer one other && are_answers asked answers
are_answers _ _ = false

-- The value of a completion answers what was asked.
abbrev pub answers : List Written → Edn → Bool
answers asked value = option_map_or (are_answers asked) (micro_ops_of Answered value) false

-- A value spells what was asked, and another one is the value of a completion that answers it.
abbrev pub is_answered : Edn → Edn → Bool
is_answered asked value = option_map_or (λ ops. answers ops value) (micro_ops_of Asked asked) false

-- the appends among micro-operations, each a key with an element
abbrev pub appends_of : List Written → List (Edn × Edn)
appends_of [] = []
appends_of (append key element ∷ ops) = (key, element) ∷ appends_of ops
appends_of (read key seen ∷ ops) = appends_of ops

-- the same element to the same key
abbrev pub is_same_append : Edn × Edn → Edn × Edn → Bool
is_same_append one other = is_equal one.0 other.0 && is_equal one.1 other.1

-- One of these appends was there before: among those in front, or among these themselves.
abbrev pub has_repeat : List (Edn × Edn) → List (Edn × Edn) → Bool
has_repeat front [] = false
has_repeat front (one ∷ more) =
    list_any (is_same_append one) front || has_repeat (front ++ one ∷ []) more
