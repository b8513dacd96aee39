-- Real time by a chain of moments: a hub for each completion, in order, which leads to the next one.
-- This project's own.
use Rattle.std.specs.Prelude.{◌≡◌, ◌⊎◌, ℕ, ◌+◌, ◌<◌, ◌≤◌, Bool, List, length, Some, slice_index_or}
use Rattle.std.specs.Prelude.{true}
use Rattle.jh_txn.specs.RealTime.{completed_at, invoked_at}
use Rattle.jh_txn.specs.Transactions.{IsDoneAt, includes}
use Rattle.jh_txn.specs.declared.dependency.Why.{Why}
use Rattle.jh_txn.specs.declared.dependency.Why.TheVariants.{RealTime}
use Rattle.jh_txn.specs.declared.txn.Txn.{Txn}
use Rattle.jh_txn_seen.specs.Marks.{IsMarked}

-- the transaction is done, and was completed at this index
abbrev pub IsDoneFrom : List Txn → ℕ → ℕ → Type 0
IsDoneFrom txns place index = IsDoneAt txns place × (completed_at txns place ≡ Some index)

-- some transaction is done, and was completed at this index
abbrev pub IsDoneAtIndex : List Txn → ℕ → Type 0
IsDoneAtIndex txns index = (place : ℕ) × IsDoneFrom txns place index

-- no later one is below an earlier one
abbrev pub AreRisingIndexes : List ℕ → Type 0
AreRisingIndexes moments =
    (i j : ℕ) → i ≤ j → j < length moments
    → slice_index_or moments i 0 ≤ slice_index_or moments j 0

-- The indexes at which transactions that are done were completed, in order.
pub record AreMoments (txns : List Txn) (moments : List ℕ) : Type 0 where
  pub rising : AreRisingIndexes moments
  pub whole : (place index : ℕ) → IsDoneFrom txns place index → includes moments index ≡ true
  pub only : (index : ℕ) → includes moments index ≡ true → IsDoneAtIndex txns index

-- how many moments are below an index
pub record IsPointOf (moments : List ℕ) (index point : ℕ) : Type 0 where
  pub within : point ≤ length moments
  pub before : (k : ℕ) → k < point → slice_index_or moments k 0 < index
  pub behind : (k : ℕ) → point ≤ k → k < length moments → index ≤ slice_index_or moments k 0

-- from a transaction that is done to the hub of its completion
abbrev pub IsCompletionStep : List Txn → List ℕ → ℕ → ℕ → ℕ → Why → ℕ → Type 0
IsCompletionStep txns moments first done place why target =
    (index point : ℕ) × IsDoneFrom txns done index × IsPointOf moments index point
    × (place ≡ done) × (why ≡ RealTime) × (target ≡ first + point)

-- from the hub of a moment to that of the next one
abbrev pub IsNextStep : List ℕ → ℕ → ℕ → Why → ℕ → Type 0
IsNextStep moments first place why target =
    (point : ℕ) × (point + 1 < length moments) × (place ≡ first + point) × (why ≡ RealTime)
    × (target ≡ first + (point + 1))

-- from the hub of the last moment before its invocation to a transaction that must be there
abbrev pub IsInvocationStep
    : List Txn → List Bool → List ℕ → ℕ → ℕ → ℕ → Why → ℕ → Type 0
IsInvocationStep txns there moments first invoked place why target =
    (point : ℕ) × IsMarked there invoked × IsPointOf moments (invoked_at txns invoked) (point + 1)
    × (place ≡ first + point) × (why ≡ RealTime) × (target ≡ invoked)

-- from any transaction that is done to the hub of its completion
abbrev pub IsAnyCompletionStep : List Txn → List ℕ → ℕ → ℕ → Why → ℕ → Type 0
IsAnyCompletionStep txns moments first place why target =
    (done : ℕ) × IsCompletionStep txns moments first done place why target

-- from the hub of the last moment before its invocation to any transaction that must be there
abbrev pub IsAnyInvocationStep
    : List Txn → List Bool → List ℕ → ℕ → ℕ → Why → ℕ → Type 0
IsAnyInvocationStep txns there moments first place why target =
    (invoked : ℕ) × IsInvocationStep txns there moments first invoked place why target

-- The steps of real time, where the hub of the first moment is this node.
abbrev pub IsMomentStep : List Txn → List Bool → List ℕ → ℕ → ℕ → Why → ℕ → Type 0
IsMomentStep txns there moments first place why target =
    IsAnyCompletionStep txns moments first place why target
    ⊎ (IsNextStep moments first place why target
    ⊎ IsAnyInvocationStep txns there moments first place why target)

-- those steps, where real time is asked for
abbrev pub IsTimeStep
    : List Txn → List Bool → List ℕ → ℕ → Bool → ℕ → Why → ℕ → Type 0
IsTimeStep txns there moments first real_time place why target =
    (real_time ≡ true) × IsMomentStep txns there moments first place why target
