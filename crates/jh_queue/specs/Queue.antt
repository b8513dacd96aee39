-- What the checker of a queue finds (jepsen.checker, `queue`: "Every dequeue must come from
-- somewhere. Validates queue operations by assuming every non-failing enqueue succeeded, and only
-- OK dequeues succeeded, then reducing the model with that history. Every subhistory of every queue
-- should obey this property."). The order of a queue is not looked at, so the model is a multiset.
-- An operation is a pair of a history; places are those of the whole history.
use Rattle.std.specs.Prelude.{◌≡◌, ℕ, ◌<◌, ◌&&◌, ◌⊎◌, nat_lt, nat_le, Bool, true, false, not}
use Rattle.std.specs.Prelude.{if◌then◌else◌, List, [], ◌∷◌, length, slice_get, codes, All, Contains}
use Rattle.std.specs.Prelude.{count_by, filter, remove, slice_index_or, Option, Some, None}
use Rattle.std.specs.Prelude.{option_map}
use Rattle.std.specs.List.{filter_map}
use Rattle.jh_edn.specs.Edn.{Edn}
use Rattle.jh_edn.specs.Normal.{normal}
use Rattle.jh_ops.specs.Operation.{Operation, operation}
use Rattle.jh_ops.specs.Pairing.{IsWellFormed, RefusesPairing, history_pairs}
use Rattle.jh_ops.specs.declared.operation.Kind.{Kind}
use Rattle.jh_ops.specs.declared.pairs.Pair.{Pair}
use Rattle.jh_ops.specs.declared.pairs.PairError.TheVariants as pair_errors
use Rattle.jh_check.specs.CounterResults.{asks, has_ended, end_place, value_at, error_of_pairing}
use Rattle.jh_check.specs.Distinct.{is_same}
use Rattle.jh_check.specs.declared.error.CheckError.{CheckError}
use Rattle.jh_check.specs.declared.error.CheckError.TheVariants as check_errors
use Rattle.jh_check.specs.declared.error.CheckError.TheVariants.{BadValue, NegativeAdd}
use Rattle.jh_check.specs.declared.error.CheckError.TheVariants.{RepeatedAppend, OutOfMemory}
use Rattle.jh_queue.specs.declared.queue.QueueResult.{QueueResult}
use Rattle.jh_queue.specs.declared.queue.QueueResult.TheVariants.{Dequeued, First}

-- ---- what goes in and what comes out

-- a value that goes in or comes out, in normal form, and where in the history
pub record Passage : Type 0 where
  pub value : Edn
  pub place : ℕ

-- with the value of the operation at a place
abbrev pub passage_at : List Operation → ℕ → Option Passage
passage_at history place =
    option_map (λ value. record { value = normal value; place = place }) (value_at history place)

-- an enqueue that may have happened: it does not fail, there or later
abbrev pub may_be_enqueued : List Operation → Pair → Bool
may_be_enqueued history pair =
    asks (codes "enqueue") history pair && not (has_ended Kind.Fail history pair)

-- a dequeue that happened
abbrev pub is_ok_dequeue : List Operation → Pair → Bool
is_ok_dequeue history pair = asks (codes "dequeue") history pair && has_ended Kind.Ok history pair

-- an enqueue puts in the value of its invocation, from there on
abbrev pub enqueue_of : List Operation → Pair → Option Passage
enqueue_of history pair =
    if may_be_enqueued history pair then passage_at history pair.invoke else None

-- a dequeue takes out the value of its completion, there
abbrev pub dequeue_of : List Operation → Pair → Option Passage
dequeue_of history pair =
    if is_ok_dequeue history pair then passage_at history (end_place pair) else None

-- those of a history with these operations
abbrev pub passages_in : List Operation → List Pair → List Passage
passages_in history pairs = filter_map (enqueue_of history) pairs

abbrev pub passages_out : List Operation → List Pair → List Passage
passages_out history pairs = filter_map (dequeue_of history) pairs

-- ---- a dequeue finds an enqueue, or none

-- how many of the enqueues are of this value, and were invoked before a place
abbrev pub enqueues_before : List Passage → Edn → ℕ → ℕ
enqueues_before ins x place =
    count_by (λ item. is_same x item.value && nat_lt item.place place) ins

-- how many of the dequeues are of this value, and completed at a place or before it
abbrev pub dequeues_upto : List Passage → Edn → ℕ → ℕ
dequeues_upto outs x place =
    count_by (λ out. is_same x out.value && nat_le out.place place) outs

-- The dequeue finds no enqueue: up to it there are more dequeues of its value, itself among them,
-- than enqueues invoked before it. Dequeues take enqueues one for one: each before the first that
-- finds none has taken one of its value, that was invoked before it completed, and so before this
-- one too. So none is left where they are one more than the enqueues. That the counts say so is
-- proved (`each_takes_its_own`).
abbrev pub finds_none : List Passage → List Passage → Passage → Bool
finds_none ins outs out =
    nat_lt (enqueues_before ins out.value out.place) (dequeues_upto outs out.value out.place)

-- each of the dequeues finds one
abbrev pub EachFinds : List Passage → List Passage → Type 0
EachFinds ins outs = All (λ out. finds_none ins outs out ≡ false) outs

-- it is one of the dequeues, it finds none, and each that completes earlier finds one
pub record IsFirstWithout (ins outs : List Passage) (out : Passage) : Type 0 where
  pub there : Contains outs out
  pub without : finds_none ins outs out ≡ true
  pub first : All (λ other. other.place < out.place → finds_none ins outs other ≡ false) outs

-- ---- each takes one of its own

-- the enqueue may be what the dequeue takes: it is of the same value, and before it
abbrev pub MayTake : Passage → Passage → Type 0
MayTake out item = (is_same out.value item.value ≡ true) × (item.place < out.place)

-- each of the dequeues takes one of the enqueues, which the others then do not have
abbrev pub EachTakes : List Passage → List Passage → Type 0
EachTakes ins [] = Unit {0}
EachTakes ins (out ∷ outs) =
    (place : ℕ) × (place < length ins) × MayTake out (slice_index_or ins place out)
    × EachTakes (remove ins place) outs

-- the dequeues that completed before a place, and those that did so there too
abbrev pub completed_before : ℕ → List Passage → List Passage
completed_before place outs = filter (λ out. nat_lt out.place place) outs

abbrev pub completed_upto : ℕ → List Passage → List Passage
completed_upto place outs = filter (λ out. nat_le out.place place) outs

-- ---- the result

-- Of a history with these operations: how many dequeues there are, where each finds one, or else
-- the completion of the first that finds none.
abbrev pub IsResultOf : List Operation → List Pair → QueueResult → Type 0
IsResultOf history pairs (Dequeued count) =
    EachFinds (passages_in history pairs) (passages_out history pairs)
    × (count ≡ length (passages_out history pairs))
IsResultOf history pairs (First place completion) =
    (out : Passage) × IsFirstWithout (passages_in history pairs) (passages_out history pairs) out
    × (place ≡ out.place) × (slice_get history place ≡ Some (operation completion))

-- the result of a history
abbrev pub IsQueueResult : List Operation → QueueResult → Type 0
IsQueueResult history result = IsResultOf history (history_pairs history) result

-- ---- refusals

-- Why there is no result: its operations do not pair. Memory can run out for the pairs, or
-- where they do.
abbrev pub RefusesQueue : List Operation → CheckError → Type 0
RefusesQueue history (check_errors.Pair error) =
    (error_of_pairing error ≡ check_errors.Pair error) × RefusesPairing history error
RefusesQueue history (BadValue place) = ⊥
RefusesQueue history (NegativeAdd place) = ⊥
RefusesQueue history (RepeatedAppend place) = ⊥
RefusesQueue history OutOfMemory =
    RefusesPairing history pair_errors.OutOfMemory ⊎ IsWellFormed history
