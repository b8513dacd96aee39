-- The transactions in the pairs of a history of the workload list-append, with numbers in place of keys
-- and elements, and why a history is refused. That a pair of anything else stands for a transaction
-- that failed and does nothing, that a missing completion leaves as much open as an `:info`, and
-- where a history is refused, are this project's own. Places count from 0 in the whole history.
use Rattle.std.specs.Prelude.{◌≡◌, ℕ, ◌<◌, ◌≤◌, Bool, false, List, [], ◌∷◌, ◌++◌, codes}
use Rattle.std.specs.Prelude.{if◌then◌else◌, slice_get, Option, Some, None, option_map}
use Rattle.std.specs.Prelude.{option_and_then}
use Rattle.std.specs.List.{AllZip, IsDistinct, flat_map}
use Rattle.std.specs.Option.{option_map_or}
use Rattle.jh_edn.specs.Edn.{Edn, is_keyword}
use Rattle.jh_edn.specs.Normal.{normal}
use Rattle.jh_numbers.specs.Numbers.{HasNumber, is_same_owned}
use Rattle.jh_ops.specs.Operation.{Operation}
use Rattle.jh_ops.specs.declared.operation.Kind.{Kind}
use Rattle.jh_ops.specs.declared.pairs.Pair.{Pair}
use Rattle.jh_txn.specs.declared.txn.MicroOp.{MicroOp}
use Rattle.jh_txn.specs.declared.txn.MicroOp.TheVariants.{Append, Read}
use Rattle.jh_txn.specs.declared.txn.Outcome.{Outcome}
use Rattle.jh_txn.specs.declared.txn.Outcome.TheVariants.{Done, Failed, Unsure}
use Rattle.jh_txn.specs.declared.txn.Txn.{Txn}
use Rattle.jh_txn_histories.specs.Written.{Written, append, read, answers, appends_of, micro_ops_of}
use Rattle.jh_txn_histories.specs.Written.{has_repeat}
use Rattle.jh_txn_histories.specs.declared.numbered.Transactions.{Transactions}
use Rattle.jh_txn_histories.specs.declared.histories.TxnError.{TxnError}
use Rattle.jh_txn_histories.specs.declared.histories.TxnError.TheVariants.{BadValue, OutOfMemory}
use Rattle.jh_txn_histories.specs.declared.histories.TxnError.TheVariants.{RepeatedAppend}
use Rattle.jh_txn_histories.specs.declared.written.Stage.TheVariants.{Asked, Answered}

abbrev pub is_txn : Operation → Bool
is_txn op = is_keyword (codes "txn") op.f

-- a transaction is invoked there
abbrev pub is_txn_at : List Operation → ℕ → Bool
is_txn_at history place = option_map_or is_txn (slice_get history place) false

-- what an invocation asks for: of anything but a transaction, nothing
abbrev pub asked_by : Operation → Option (List Written)
asked_by op = if is_txn op then micro_ops_of Asked op.value else Some []

-- the micro-operations that a pair was invoked with, where its value spells some
abbrev pub txn_asked : List Operation → Pair → Option (List Written)
txn_asked history pair = option_and_then asked_by (slice_get history pair.invoke)

-- the completion of a pair, if there is one
abbrev pub pair_completion : List Operation → Pair → Option Operation
pair_completion history pair = option_and_then (λ place. slice_get history place) pair.outcome

-- the value of a completion, where it is `:ok`
abbrev pub value_if_ok : Kind → Edn → Option Edn
value_if_ok Kind.Ok value = Some value
value_if_ok _ value = None

-- the value of the `:ok` completion of a transaction
abbrev pub txn_answer : List Operation → Pair → Option Edn
txn_answer history pair =
    if is_txn_at history pair.invoke
    then option_and_then (λ op. value_if_ok op.kind op.value) (pair_completion history pair)
    else None

-- what the micro-operations of a pair are known to have done: as they were answered, else as they
-- were asked for
abbrev pub txn_said : List Operation → Pair → Option (List Written)
txn_said history pair = option_map_or (micro_ops_of Answered) (txn_answer history pair) (txn_asked history pair)

-- how a transaction with this completion ended; one with none may have happened
abbrev pub outcome_after : Option Kind → Outcome
outcome_after (Some Kind.Ok) = Done
outcome_after (Some Kind.Fail) = Failed
outcome_after _ = Unsure

abbrev pub txn_outcome : List Operation → Pair → Outcome
txn_outcome history pair =
    if is_txn_at history pair.invoke
    then outcome_after (option_map (λ op. op.kind) (pair_completion history pair))
    else Failed

-- The place of a bad value: of the invocation where what it asks for cannot be read, else of the
-- completion where that is no answer.
abbrev pub place_if_bad : Pair → Option (List Written) → Option Edn → Option ℕ
place_if_bad pair None answer = Some pair.invoke
place_if_bad pair (Some asked) None = None
place_if_bad pair (Some asked) (Some answer) = if answers asked answer then None else pair.outcome

-- the place of the bad value of a pair, if it has one
abbrev pub bad_value_place : List Operation → Pair → Option ℕ
bad_value_place history pair = place_if_bad pair (txn_asked history pair) (txn_answer history pair)

-- what the transaction of a pair appends, whether or not it happened
abbrev pub appends_of_pair : List Operation → Pair → List (Edn × Edn)
appends_of_pair history pair = option_map_or appends_of (txn_asked history pair) []

-- what the transactions of pairs append, one after another
abbrev pub appends_of_pairs : List Operation → List Pair → List (Edn × Edn)
appends_of_pairs history pairs = flat_map (appends_of_pair history) pairs

-- the place of a pair that appends something again, behind those in front
abbrev pub repeated_place : List Operation → List Pair → Pair → Option ℕ
repeated_place history front pair =
    if has_repeat (appends_of_pairs history front) (appends_of_pair history pair) then Some pair.invoke else None

-- A pair is refused at this place, for what it is and for what stands in front of it.
abbrev pub IsRefusedAt : (List Pair → Pair → Option ℕ) → List Pair → ℕ → Type 0
IsRefusedAt refused pairs place =
    (front back : List Pair) × (pair : Pair) × (pairs ≡ front ++ pair ∷ back)
    × (refused front pair ≡ Some place)

-- a bad value stands at this place
abbrev pub IsBadAt : List Operation → List Pair → ℕ → Type 0
IsBadAt history pairs place = IsRefusedAt (λ front pair. bad_value_place history pair) pairs place

-- a transaction is invoked at this place that appends something again
abbrev pub IsRepeatedAt : List Operation → List Pair → ℕ → Type 0
IsRepeatedAt history pairs place = IsRefusedAt (repeated_place history) pairs place

-- Numbers stand for the values: of a key as such, of an element as one of its key.
abbrev pub IsNumbered : List (ℕ × Edn) → List (ℕ × Edn) → Written → MicroOp → Type 0
IsNumbered keys elements (append key element) (Append k e) =
    HasNumber keys (0, normal key) k × HasNumber elements (k, normal element) e
IsNumbered keys elements (read key seen) (Read k es) =
    HasNumber keys (0, normal key) k
    × AllZip (λ element e. HasNumber elements (k, normal element) e) seen es
IsNumbered keys elements _ _ = ⊥

-- The transaction of a pair, with numbers of these tables.
pub record IsTxnOf (history : List Operation) (keys elements : List (ℕ × Edn)) (pair : Pair)
    (txn : Txn) : Type 0 where
  pub invoked : txn.invoked ≡ pair.invoke
  pub completed : txn.completed ≡ pair.outcome
  pub outcome : txn.outcome ≡ txn_outcome history pair
  pub ops : (said : List Written) × (txn_said history pair ≡ Some said)
      × AllZip (IsNumbered keys elements) said txn.ops

-- One transaction for each pair, in order; keys and elements that are equal have one number; and
-- nothing is refused.
pub record AreTransactions (history : List Operation) (pairs : List Pair) (read : Transactions)
    : Type 0 where
  pub each : AllZip (IsTxnOf history read.keys read.elements) pairs read.txns.items
  pub keys_apart : IsDistinct is_same_owned read.keys
  pub elements_apart : IsDistinct is_same_owned read.elements
  pub good : (place : ℕ) → ¬ IsBadAt history pairs place
  pub once : (place : ℕ) → ¬ IsRepeatedAt history pairs place

-- Why a history is refused: at the least place of all, and at one place for a bad value first.
abbrev pub RefusesTransactions : List Operation → List Pair → TxnError → Type 0
RefusesTransactions history pairs (BadValue place) =
    IsBadAt history pairs place
    × ((other : ℕ) → IsBadAt history pairs other → place ≤ other)
    × ((other : ℕ) → IsRepeatedAt history pairs other → place ≤ other)
RefusesTransactions history pairs (RepeatedAppend place) =
    IsRepeatedAt history pairs place
    × ((other : ℕ) → IsRepeatedAt history pairs other → place ≤ other)
    × ((other : ℕ) → IsBadAt history pairs other → place < other)
RefusesTransactions history pairs OutOfMemory = Unit {0}
