-- Which transaction was over before which (the real-time order of Herlihy and Wing,
-- "Linearizability", 1990). Indexes are those of invocations and completions in the history.
use Rattle.std.specs.Prelude.{◌≡◌, ℕ, ◌<◌, Option, Some, List, slice_get, option_map}
use Rattle.std.specs.Prelude.{option_and_then, unwrap_or}
use Rattle.std.specs.Option.{IsSomeAnd}
use Rattle.jh_txn.specs.declared.txn.Txn.{Txn}
use Rattle.jh_txn.specs.Transactions.{IsDoneAt}

-- the index at which the transaction at a place was invoked
abbrev pub invoked_at : List Txn → ℕ → ℕ
invoked_at txns place = unwrap_or (option_map (λ txn. txn.invoked) (slice_get txns place)) 0

-- the index at which it was completed, if it was
abbrev pub completed_at : List Txn → ℕ → Option ℕ
completed_at txns place = option_and_then (λ txn. txn.completed) (slice_get txns place)

-- the transaction is done, and was completed before this index
abbrev pub IsDoneBefore : List Txn → ℕ → ℕ → Type 0
IsDoneBefore txns place index =
    IsDoneAt txns place × IsSomeAnd (completed_at txns place) (λ completed. completed < index)

-- the first transaction is done, and was completed before the second one was invoked
abbrev pub PrecedesInTime : List Txn → ℕ → ℕ → Type 0
PrecedesInTime txns first second = IsDoneBefore txns first (invoked_at txns second)

-- each transaction that was completed was so after its invocation
abbrev pub CompleteAfterInvocation : List Txn → Type 0
CompleteAfterInvocation txns =
    (place completed : ℕ) → completed_at txns place ≡ Some completed
    → invoked_at txns place < completed
