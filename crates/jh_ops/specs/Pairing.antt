-- Well-formed histories and their pairs (jepsen.history: each process does one operation at a time,
-- an invocation and then its completion; what an `:info` process had outstanding stays open for
-- ever, so that process does nothing more). All of it is about client operations, each process by
-- itself over the whole history; places count from 0.
use Rattle.std.specs.Prelude.{◌≡◌, ℕ, ◌+◌, ◌<◌, ◌≤◌, ◌==◌, ◌&&◌, Bool, true, false, not, List, []}
use Rattle.std.specs.Prelude.{◌∷◌, ◌++◌, map, filter, fold, length, take, if◌then◌else◌, slice_get}
use Rattle.std.specs.Prelude.{Option, Some, None, IfSome, option_and_then}
use Rattle.std.specs.List.{list_any}
use Rattle.jh_ops.specs.Operation.{Operation}
use Rattle.jh_ops.specs.declared.operation.Kind.{Kind}
use Rattle.jh_ops.specs.declared.operation.Process.{Process}
use Rattle.jh_ops.specs.declared.pairs.Pair.{Pair}
use Rattle.jh_ops.specs.declared.pairs.PairError.{PairError}
use Rattle.jh_ops.specs.declared.pairs.PairError.TheVariants.{AfterCrash, DoubleInvoke, NoInvoke}
use Rattle.jh_ops.specs.declared.pairs.PairError.TheVariants.{OutOfMemory}

-- the process is this client
abbrev pub is_of_client : ℕ → Process → Bool
is_of_client client (Process.Client number) = client == number
is_of_client client Process.Nemesis = false

-- the kinds of a client's operations, in order
abbrev pub kinds_of : ℕ → List Operation → List Kind
kinds_of client history =
    map (λ op. op.kind) (filter (λ op. is_of_client client op.process) history)

-- an invocation and a completion in turn, from an invocation on, and nothing after an `:info`
abbrev pub Alternate : List Kind → Type 0
Alternate [] = Unit {0}
Alternate (Kind.Invoke ∷ []) = Unit {0}
Alternate (Kind.Invoke ∷ Kind.Ok ∷ kinds) = Alternate kinds
Alternate (Kind.Invoke ∷ Kind.Fail ∷ kinds) = Alternate kinds
Alternate (Kind.Invoke ∷ Kind.Info ∷ kinds) = kinds ≡ []
Alternate _ = ⊥

abbrev pub IsWellFormed : List Operation → Type 0
IsWellFormed history = (client : ℕ) → Alternate (kinds_of client history)

-- the place of a client's first operation in a list that begins at a place
abbrev pub first_of : ℕ → ℕ → List Operation → Option ℕ
first_of client place [] = None
first_of client place (op ∷ ops) =
    if is_of_client client op.process then Some place else first_of client (place + 1) ops

-- the pair of an operation at a place, where it is a client's invocation: its outcome is the next
-- operation of its process
abbrev pub pair_of : Kind → Process → ℕ → List Operation → List Pair
pair_of Kind.Invoke (Process.Client client) place after =
    record { invoke = place; outcome = first_of client (place + 1) after } ∷ []
pair_of _ _ place after = []

abbrev pub pairs_from : ℕ → List Operation → List Pair
pairs_from place [] = []
pairs_from place (op ∷ ops) = pair_of op.kind op.process place ops ++ pairs_from (place + 1) ops

-- the pairs of a history, in order of invocation
abbrev pub history_pairs : List Operation → List Pair
history_pairs history = pairs_from 0 history

-- a pair of a history of this length, whose outcome, if there is one, stands behind its invocation
pub record IsPairWithin (count : ℕ) (pair : Pair) : Type 0 where
  pub invoke : pair.invoke < count
  pub outcome : IfSome pair.outcome (λ place. (pair.invoke < place) × (place < count))

abbrev pub is_invoke : Kind → Bool
is_invoke Kind.Invoke = true
is_invoke _ = false

abbrev pub is_info : Kind → Bool
is_info Kind.Info = true
is_info _ = false

-- a process that did these has crashed
abbrev pub has_crashed : List Kind → Bool
has_crashed kinds = list_any is_info kinds

-- a process that did these has an invocation outstanding: the last is one
abbrev pub is_waiting : List Kind → Bool
is_waiting kinds = fold (λ _ kind. is_invoke kind) false kinds

-- what is wrong with an operation at a place, where its process crashed before or not, and has one
-- outstanding or not
abbrev pub pair_error_after : Bool → Bool → Kind → ℕ → Option PairError
pair_error_after crashed waiting kind place =
    if crashed then Some (AfterCrash place)
    else if is_invoke kind && waiting then Some (DoubleInvoke place)
    else if not (is_invoke kind) && not waiting then Some (NoInvoke place)
    else None

-- what is wrong with an operation at a place, after all those before it
abbrev pub pair_error_of : Process → Kind → List Operation → ℕ → Option PairError
pair_error_of (Process.Client client) kind before place =
    pair_error_after (has_crashed (kinds_of client before))
    (is_waiting (kinds_of client before)) kind place
pair_error_of Process.Nemesis kind before place = None

-- what is wrong with the operation at a place of a history
abbrev pub pair_error_at : List Operation → ℕ → Option PairError
pair_error_at history place =
    option_and_then (λ op. pair_error_of op.process op.kind (take place history) place)
    (slice_get history place)

-- the first operation in error has this error
abbrev pub HasPairError : List Operation → PairError → Type 0
HasPairError history error =
    (place : ℕ) × (pair_error_at history place ≡ Some error)
    × ((earlier : ℕ) → earlier < place → pair_error_at history earlier ≡ None)

-- Why a history is refused. `OutOfMemory` is possible only at an operation up to which nothing is
-- wrong.
abbrev pub RefusesPairing : List Operation → PairError → Type 0
RefusesPairing history OutOfMemory =
    (place : ℕ) × (place < length history)
    × ((earlier : ℕ) → earlier ≤ place → pair_error_at history earlier ≡ None)
RefusesPairing history error = HasPairError history error
