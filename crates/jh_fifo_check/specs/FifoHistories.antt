-- The operations in a history of a first-in-first-out queue (the model `fifo-queue` of knossos.model:
-- an `:enqueue` puts its value at the end, and a `:dequeue` takes the value at the front). A dequeue
-- that answers nil found the queue empty; that such dequeues are judged too is after Henzinger, Sezgin
-- and Vafeiadis, "Aspect-oriented linearizability proofs" (CONCUR 2013). The numbers of values, and
-- where a bad value is reported, are this project's own. An operation is a pair of a history, and its
-- number is its place among all pairs, those that failed too.
use Rattle.std.specs.Prelude.{◌≡◌, ℕ, ◌&&◌, ◌||◌, ◌⊎◌, Bool, true, false, not, if◌then◌else◌, List}
use Rattle.std.specs.Prelude.{map, filter, find, codes, count_by, Option, Some, None, is_some}
use Rattle.std.specs.Prelude.{option_map, option_and_then}
use Rattle.std.specs.List.{enumerate_from, filter_map}
use Rattle.std.specs.Option.{option_map_or}
use Rattle.jh_edn.specs.Edn.{Edn, nil}
use Rattle.jh_edn.specs.Normal.{normal}
use Rattle.jh_edn.specs.Order.{in_order, is_below}
use Rattle.jh_ops.specs.Operation.{Operation}
use Rattle.jh_ops.specs.Pairing.{IsWellFormed, RefusesPairing, history_pairs}
use Rattle.jh_ops.specs.declared.operation.Kind.{Kind}
use Rattle.jh_ops.specs.declared.pairs.Pair.{Pair}
use Rattle.jh_ops.specs.declared.pairs.PairError.TheVariants as pair_errors
use Rattle.jh_check.specs.CounterResults.{asks, has_ended, end_place, value_at, error_of_pairing}
use Rattle.jh_check.specs.declared.error.CheckError.{CheckError}
use Rattle.jh_check.specs.declared.error.CheckError.TheVariants as check_errors
use Rattle.jh_check.specs.declared.error.CheckError.TheVariants.{BadValue, NegativeAdd}
use Rattle.jh_check.specs.declared.error.CheckError.TheVariants.{RepeatedAppend, OutOfMemory}
use Rattle.jh_fifo.specs.declared.operations.FifoCall.{FifoCall}
use Rattle.jh_fifo.specs.declared.operations.FifoCall.TheVariants.{Enqueue, Dequeue, Empty}
use Rattle.jh_fifo.specs.declared.operations.FifoOp.{FifoOp}

-- ---- what goes through the queue

-- the operation did not fail: it happened, or may have
abbrev pub did_not_fail : List Operation → Pair → Bool
did_not_fail history pair = not (has_ended Kind.Fail history pair)

-- those that did not fail, in the order of the pairs
abbrev pub pairs_not_failed : List Operation → List Pair → List Pair
pairs_not_failed history pairs = filter (did_not_fail history) pairs

-- their numbers
abbrev pub numbers_not_failed : List Operation → List Pair → List ℕ
numbers_not_failed history pairs =
    map (λ numbered. numbered.0)
    (filter (λ numbered. did_not_fail history numbered.1) (enumerate_from 0 pairs))

-- nil is what a dequeue answers that found the queue empty
abbrev pub unless_nil : Edn → Option Edn
unless_nil nil = None
unless_nil value = Some value

-- what a dequeue answered: the value of its `:ok` completion, which is no value where that is nil
abbrev pub answered_by : List Operation → Pair → Option Edn
answered_by history pair =
    if has_ended Kind.Ok history pair
    then option_and_then unless_nil (value_at history (end_place pair)) else None

-- the value that an enqueue puts in or that a dequeue took out
abbrev pub moved_by : List Operation → Pair → Option Edn
moved_by history pair =
    if asks (codes "enqueue") history pair then value_at history pair.invoke
    else answered_by history pair

-- the same in normal form, in which two values are one where they are equal
abbrev pub normal_moved_by : List Operation → Pair → Option Edn
normal_moved_by history pair = option_map normal (moved_by history pair)

-- all values that go through the queue, in normal order
abbrev pub values_through : List Operation → List Pair → List Edn
values_through history pairs = in_order is_below (filter_map (normal_moved_by history) pairs)

-- the number of a value: how many of the values are below it
abbrev pub value_number : List Edn → Edn → ℕ
value_number values x = count_by (λ y. is_below y x) values

-- ---- the operations

-- the call that moves the value with a number
abbrev pub call_that_moves : (enqueues : Bool) → ℕ → FifoCall
call_that_moves true number = Enqueue number
call_that_moves false number = Dequeue number

-- the call of an operation; one that moves no value is a dequeue that found the queue empty, or of which
-- it is not known what it did
abbrev pub fifo_call_of : List Edn → List Operation → Pair → FifoCall
fifo_call_of values history pair =
    option_map_or
    (λ x. call_that_moves (asks (codes "enqueue") history pair) (value_number values x))
    (normal_moved_by history pair) Empty

-- an operation that is not known to have happened has no end
abbrev pub known_end : List Operation → Pair → Option ℕ
known_end history pair = if has_ended Kind.Ok history pair then pair.outcome else None

abbrev pub fifo_op_of : List Edn → List Operation → Pair → FifoOp
fifo_op_of values history pair =
    record {
      invoked = pair.invoke;
      ended = known_end history pair;
      call = fifo_call_of values history pair;
    }

-- the operations of some pairs
abbrev pub fifo_ops_of : List Operation → List Pair → List FifoOp
fifo_ops_of history pairs = map (fifo_op_of (values_through history pairs) history) pairs

-- ---- refusals

-- there is a value at a place of the history, other than nil
abbrev pub has_value_at : List Operation → ℕ → Bool
has_value_at history place = is_some (option_and_then unless_nil (value_at history place))

-- The operation is an enqueue of nil: what takes that out could not be told from what finds the queue
-- empty.
abbrev pub enqueues_nil : List Operation → Pair → Bool
enqueues_nil history pair =
    asks (codes "enqueue") history pair && not (has_value_at history pair.invoke)

-- A queue does not have its function, or it enqueues nil.
abbrev pub has_bad_call : List Operation → Pair → Bool
has_bad_call history pair =
    enqueues_nil history pair
    || not (asks (codes "enqueue") history pair || asks (codes "dequeue") history pair)

-- The place of the first invocation of such an operation: pairs stand in the order of invocations.
abbrev pub first_bad_call : List Operation → List Pair → Option ℕ
first_bad_call history pairs = option_map (λ pair. pair.invoke) (find (has_bad_call history) pairs)

-- its operations pair, and each is one of a queue
abbrev pub IsFifoHistory : List Operation → Type 0
IsFifoHistory history =
    IsWellFormed history × (first_bad_call history (history_pairs history) ≡ None)

-- Why a history is not judged: first for its pairs, then for the first bad call. Memory can run
-- out for the pairs, or where neither is wrong.
abbrev pub RefusesFifo : List Operation → CheckError → Type 0
RefusesFifo history (check_errors.Pair error) =
    (error_of_pairing error ≡ check_errors.Pair error) × RefusesPairing history error
RefusesFifo history (BadValue place) =
    IsWellFormed history × (first_bad_call history (history_pairs history) ≡ Some place)
RefusesFifo history (NegativeAdd place) = ⊥
RefusesFifo history (RepeatedAppend place) = ⊥
RefusesFifo history OutOfMemory =
    RefusesPairing history pair_errors.OutOfMemory ⊎ IsFifoHistory history
