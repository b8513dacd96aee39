-- What the counter checker finds (jepsen.checker, `counter`): each read lies between the sum of
-- what was surely added before it began and the sum of what may have been added before it ended.
-- The two sums are this project's own reading of that page. An operation is a pair of a history;
-- places are those of the whole history.
use Rattle.std.specs.Prelude.{◌≡◌, ℕ, ◌≤◌, ◌==◌, ◌&&◌, ◌⊎◌, Bool, false, not, nat_lt, int_le, ℤ}
use Rattle.std.specs.Prelude.{pos, negsuc, List, [], map, filter, length, slice_get, codes, sum_by}
use Rattle.std.specs.Prelude.{Contains, All, Option, Some, None, if◌then◌else◌, option_and_then}
use Rattle.std.specs.Prelude.{unwrap_or}
use Rattle.std.specs.List.{filter_map}
use Rattle.std.specs.Option.{option_map_or, option_map}
use Rattle.jh_edn.specs.Edn.{Edn, int, is_keyword}
use Rattle.jh_edn.specs.Order.{in_order}
use Rattle.jh_ops.specs.Operation.{Operation, is_kind}
use Rattle.jh_ops.specs.Pairing.{IsWellFormed, RefusesPairing, history_pairs}
use Rattle.jh_ops.specs.declared.operation.Kind.{Kind}
use Rattle.jh_ops.specs.declared.pairs.Pair.{Pair}
use Rattle.jh_ops.specs.declared.pairs.PairError.{PairError}
use Rattle.jh_ops.specs.declared.pairs.PairError.TheVariants as pair_errors
use Rattle.jh_check.specs.Verdicts.{verdict_of}
use Rattle.jh_check.specs.declared.counter.CounterResult.{CounterResult}
use Rattle.jh_check.specs.declared.counter.ReadBounds.{ReadBounds}
use Rattle.jh_check.specs.declared.error.CheckError.{CheckError}
use Rattle.jh_check.specs.declared.error.CheckError.TheVariants as check_errors
use Rattle.jh_check.specs.declared.error.CheckError.TheVariants.{BadValue, NegativeAdd}
use Rattle.jh_check.specs.declared.error.CheckError.TheVariants.{RepeatedAppend, OutOfMemory}

-- ---- operations

-- what the operation asks for is the function of this name
abbrev pub asks : List ℕ → List Operation → Pair → Bool
asks name history pair =
    option_map_or (λ op. is_keyword name op.f) (slice_get history pair.invoke) false

-- the operation has an outcome, of this kind
abbrev pub has_ended : Kind → List Operation → Pair → Bool
has_ended kind history pair =
    option_map_or (λ op. is_kind kind op.kind)
    (option_and_then (slice_get history) pair.outcome) false

-- the place of the operation's outcome, or where there is none that of its invocation
abbrev pub end_place : Pair → ℕ
end_place pair = unwrap_or pair.outcome pair.invoke

abbrev pub value_at : List Operation → ℕ → Option Edn
value_at history place = option_map (λ op. op.value) (slice_get history place)

-- a number from 0 on, and 0 for all else
abbrev pub natural : Option Edn → ℕ
natural (Some (int (pos n))) = n
natural _ = 0

-- an integer, and 0 for all else
abbrev pub integer : Option Edn → ℤ
integer (Some (int z)) = z
integer _ = pos 0

-- ---- adds

-- an add's amount is the value of its invocation
abbrev pub amount : List Operation → Pair → ℕ
amount history pair = natural (value_at history pair.invoke)

-- an add that is known to have happened
abbrev pub is_surely_added : List Operation → Pair → Bool
is_surely_added history pair = asks (codes "add") history pair && has_ended Kind.Ok history pair

-- an add that is not known not to have happened
abbrev pub may_be_added : List Operation → Pair → Bool
may_be_added history pair =
    asks (codes "add") history pair && not (has_ended Kind.Fail history pair)

-- the sum of the amounts of the adds that had completed ok before a place
abbrev pub sure_sum_before : List Operation → List Pair → ℕ → ℕ
sure_sum_before history pairs place =
    sum_by (amount history)
    (filter (λ pair. is_surely_added history pair && nat_lt (end_place pair) place) pairs)

-- the sum of the amounts of the adds that were invoked before a place and do not fail, there or
-- later
abbrev pub possible_sum_before : List Operation → List Pair → ℕ → ℕ
possible_sum_before history pairs place =
    sum_by (amount history)
    (filter (λ pair. may_be_added history pair && nat_lt pair.invoke place) pairs)

-- ---- reads

-- a read that happened
abbrev pub is_ok_read : List Operation → Pair → Bool
is_ok_read history pair = asks (codes "read") history pair && has_ended Kind.Ok history pair

-- a read with its bounds: what was surely added before it was invoked, what may have been added
-- before it completed
abbrev pub bounds_of : List Operation → List Pair → Pair → ReadBounds
bounds_of history pairs read =
    record {
      lower = pos (sure_sum_before history pairs read.invoke);
      value = integer (value_at history (end_place read));
      upper = pos (possible_sum_before history pairs (end_place read));
    }

abbrev pub ends_before : Pair → Pair → Bool
ends_before a b = nat_lt (end_place a) (end_place b)

-- the reads that happened, in the order of their completions
abbrev pub reads_in : List Operation → List Pair → List Pair
reads_in history pairs = in_order ends_before (filter (is_ok_read history) pairs)

-- where they are completed, in order: the bounds of reads stand in the same
abbrev pub read_ends : List Operation → List Pair → List ℕ
read_ends history pairs = map end_place (reads_in history pairs)

-- the value lies between the bounds, both included
abbrev pub is_in_bounds : ReadBounds → Bool
is_in_bounds read = int_le read.lower read.value && int_le read.value read.upper

abbrev pub result_from : List ReadBounds → CounterResult
result_from reads =
    let errors = filter (λ read. not (is_in_bounds read)) reads in
    record { verdict = verdict_of (length errors == 0); reads = reads; errors = errors }

abbrev pub result_of : List Operation → List Pair → CounterResult
result_of history pairs = result_from (map (bounds_of history pairs) (reads_in history pairs))

-- the result of a history
abbrev pub counter_result : List Operation → CounterResult
counter_result history = result_of history (history_pairs history)

-- ---- refusals

-- an add's amount has to be an integer, and not below 0
abbrev pub add_error : ℕ → Option Edn → Option CheckError
add_error place (Some (int (pos n))) = None
add_error place (Some (int (negsuc n))) = Some (NegativeAdd place)
add_error place _ = Some (BadValue place)

-- what a read gives has to be an integer
abbrev pub read_error : ℕ → Option Edn → Option CheckError
read_error place (Some (int z)) = None
read_error place _ = Some (BadValue place)

-- what is wrong with the values of an operation: of an add at its invocation, whatever its outcome, of a
-- read that happened at its completion
abbrev pub value_error : List Operation → Pair → Option CheckError
value_error history pair =
    if asks (codes "add") history pair then add_error pair.invoke (value_at history pair.invoke)
    else if is_ok_read history pair
    then read_error (end_place pair) (value_at history (end_place pair))
    else None

abbrev pub errors_in : List Operation → List Pair → List CheckError
errors_in history pairs = filter_map (value_error history) pairs

abbrev pub place_of_error : CheckError → ℕ
place_of_error (check_errors.Pair error) = 0
place_of_error (BadValue place) = place
place_of_error (NegativeAdd place) = place
place_of_error (RepeatedAppend place) = place
place_of_error OutOfMemory = 0

-- one of the errors, and none is at an earlier place
abbrev pub IsEarliest : CheckError → List CheckError → Type 0
IsEarliest error errors =
    Contains errors error × All (λ other. place_of_error error ≤ place_of_error other) errors

-- its operations can be parsed and have the values that they need
abbrev pub IsCountable : List Operation → Type 0
IsCountable history = IsWellFormed history × (errors_in history (history_pairs history) ≡ [])

-- the error that a checker gives for one of pairing
abbrev pub error_of_pairing : PairError → CheckError
error_of_pairing pair_errors.OutOfMemory = OutOfMemory
error_of_pairing error = check_errors.Pair error

-- Why there is no result: first for its pairs, then for the first bad value. Memory can run out
-- for the pairs, or where neither is wrong.
abbrev pub RefusesCounter : List Operation → CheckError → Type 0
RefusesCounter history (check_errors.Pair error) =
    (error_of_pairing error ≡ check_errors.Pair error) × RefusesPairing history error
RefusesCounter history (BadValue place) =
    IsWellFormed history × IsEarliest (BadValue place) (errors_in history (history_pairs history))
RefusesCounter history (NegativeAdd place) =
    IsWellFormed history
    × IsEarliest (NegativeAdd place) (errors_in history (history_pairs history))
RefusesCounter history (RepeatedAppend place) = ⊥
RefusesCounter history OutOfMemory =
    RefusesPairing history pair_errors.OutOfMemory ⊎ IsCountable history
