-- Which values the completion of a call may have: those that a checker takes (jepsen.checker), and of a call
-- that gave a value, that value. This project's own, as equality of elements is EDN's.
use Rattle.std.specs.Prelude.{Bool, true, false, ◌&&◌, ◌||◌, List}
use Rattle.std.specs.Prelude.{[], ◌∷◌, Option, None, Some}
use Rattle.std.specs.Prelude.{is_some}
use Rattle.jh_edn.specs.Edn.{Edn, nil, elements_of, is_nil, is_integer}
use Rattle.jh_ops.specs.declared.call.Request.{Request}
use Rattle.jh_ops.specs.declared.call.Request.TheVariants.{Read, Generate, Txn}
use Rattle.jh_ops.specs.declared.operation.Kind.{Kind}
use Rattle.jh_txn_histories.specs.Written.{is_answered, is_equal}
use Rattle.jh_test_parts.specs.Test.{TestValue}
use Rattle.jh_test_parts.specs.declared.calls.ValuedCall.{ValuedCall}
use Rattle.jh_test_parts.specs.declared.parts.KeyShares.{KeyShares}
use Rattle.jh_test_parts.specs.declared.workload.TestWorkload.{TestWorkload}
use Rattle.jh_test_parts.specs.declared.workload.TestWorkload.TheVariants.{Register, Counter, Set}
use Rattle.jh_test_parts.specs.declared.workload.TestWorkload.TheVariants.{Ids, ListAppend}

abbrev pub is_collection : Edn → Bool
is_collection (Edn.set xs) = true
is_collection value = is_some (elements_of value)

-- what a read may see: an integer or nil of a register, an integer of a counter, of a set a list, a
-- vector or a set
abbrev pub is_readable : TestWorkload → Edn → Bool
is_readable Register value = is_nil value || is_integer value
is_readable Counter value = is_integer value
is_readable Set value = is_collection value
is_readable Ids value = true
is_readable ListAppend value = true

-- what a call that was done may have got, but for its key; a transaction has done the same, with what
-- its reads saw
abbrev pub fits_request : TestWorkload → Request → (asked got : Edn) → Bool
fits_request workload Read asked got = is_readable workload got
fits_request workload Generate asked got = true
fits_request workload Txn asked got = is_answered asked got
fits_request workload _ asked got = is_equal asked got

abbrev pub fits_with_key : TestWorkload → Request → List Edn → Option (List Edn) → Bool
fits_with_key workload request (key ∷ asked ∷ []) (Some (other ∷ got ∷ [])) =
    is_equal key other && fits_request workload request asked got
fits_with_key workload request _ _ = false

abbrev pub list_or_none : Option (List Edn) → List Edn
list_or_none None = []
list_or_none (Some values) = values

-- of independent keys a tuple of the same key and such a value
abbrev pub is_good_value : TestValue → Option KeyShares → ValuedCall → Edn → Bool
is_good_value t None call value = fits_request t.workload call.request call.value value
is_good_value t (Some shares) call value =
    fits_with_key t.workload call.request (list_or_none (elements_of call.value))
    (elements_of value)

-- a completion that is not `:ok` has the call's own value
abbrev pub fits_call : TestValue → ValuedCall → Kind → Edn → Bool
fits_call t call Kind.Ok value = is_good_value t t.keys call value
fits_call t call _ value = is_equal call.value value
