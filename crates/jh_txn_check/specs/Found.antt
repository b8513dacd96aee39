-- What is found in the transactions of a history, by the model that they are judged by. This
-- project's own; the definitions of orders, bad reads and cycles in `jh_txn` name the papers.
use Rattle.std.specs.Prelude.{◌≡◌, ℕ, Bool, true, false, List, [], ◌∷◌, map, Option, Some, None, Vec}
use Rattle.std.specs.declared.alloc.Global.{Global}
use Rattle.jh_ops.specs.Operation.{Operation}
use Rattle.jh_ops.specs.declared.operation.Op.{Op}
use Rattle.jh_ops.specs.declared.pairs.Pair.{Pair}
use Rattle.jh_txn.specs.BadReads.{IsBadRead}
use Rattle.jh_txn.specs.Cycles.{IsCycle, IsSnapshotCycle}
use Rattle.jh_txn.specs.Models.{is_of_snapshots}
use Rattle.jh_txn.specs.SerialOrders.{IsSerialOrderFor}
use Rattle.jh_txn.specs.SnapshotCheckInside.{place_of_point}
use Rattle.jh_txn.specs.SnapshotOrders.{IsSnapshotOrderFor}
use Rattle.jh_txn.specs.declared.dependency.Step.{Step}
use Rattle.jh_txn.specs.declared.model.ConsistencyModel.{ConsistencyModel}
use Rattle.jh_txn.specs.declared.model.ConsistencyModel.TheVariants.{Serializable}
use Rattle.jh_txn.specs.declared.model.ConsistencyModel.TheVariants.{StrictSerializable}
use Rattle.jh_txn.specs.declared.model.ConsistencyModel.TheVariants.{SnapshotIsolation}
use Rattle.jh_txn.specs.declared.model.ConsistencyModel.TheVariants.{StrongSnapshotIsolation}
use Rattle.jh_txn.specs.declared.txn.Point.{Point}
use Rattle.jh_txn.specs.declared.txn.Txn.{Txn}
use Rattle.jh_check.specs.Shown.{AreOperationsAt}
use Rattle.jh_txn_findings.specs.Found.{AreFoundSteps}
use Rattle.jh_txn_findings.specs.declared.finding.TxnFinding.{TxnFinding}
use Rattle.jh_txn_findings.specs.declared.finding.TxnFinding.TheVariants as found
use Rattle.jh_txn_histories.specs.Histories.{AreTransactions}
use Rattle.jh_txn_histories.specs.declared.numbered.Transactions.{Transactions}
use Rattle.jh_txn_snapshot_judge.specs.Judged.{HasUntoldPair}

-- ---- orders and cycles, by the model

-- the places of a snapshot order, where each transaction stands twice: first where it starts, then
-- where it commits
abbrev pub ArePlacesOfPoints : List Txn → Bool → List ℕ → Type 0
ArePlacesOfPoints txns real_time places =
    (points : List Point) × IsSnapshotOrderFor txns real_time points
    × (places ≡ map place_of_point points)

-- The order that a model asks for, by the places of its transactions.
abbrev pub IsOrderFor : List Txn → ConsistencyModel → List ℕ → Type 0
IsOrderFor txns Serializable places = IsSerialOrderFor txns false places
IsOrderFor txns StrictSerializable places = IsSerialOrderFor txns true places
IsOrderFor txns SnapshotIsolation places = ArePlacesOfPoints txns false places
IsOrderFor txns StrongSnapshotIsolation places = ArePlacesOfPoints txns true places

-- A cycle that excludes each order of a model: for snapshots one in which no two `:rw` are
-- neighbours.
abbrev pub IsCycleFor : List Txn → ConsistencyModel → List Step → Type 0
IsCycleFor txns Serializable cycle = IsCycle txns Serializable cycle
IsCycleFor txns StrictSerializable cycle = IsCycle txns StrictSerializable cycle
IsCycleFor txns SnapshotIsolation cycle = IsSnapshotCycle txns SnapshotIsolation cycle
IsCycleFor txns StrongSnapshotIsolation cycle = IsSnapshotCycle txns StrongSnapshotIsolation cycle

-- ---- findings

-- the last operations of the pairs at these places are shown, where that is asked for
abbrev pub AreShown
    : List Operation → List Pair → Bool → List ℕ → Option (Vec Op Global) → Type 0
AreShown history pairs false places operations = operations ≡ None
AreShown history pairs true places operations =
    (shown : Vec Op Global) × (operations ≡ Some shown)
    × AreOperationsAt history pairs places shown.items

-- What a finding says of transactions, with the keys and elements of the history: an order of the
-- model; or what excludes each one, a read that no order explains or a cycle of dependencies; or
-- that it is not known, for a model of snapshots alone, where two transactions that must be there
-- appended to one key what no read has and did not read that key.
abbrev pub SaysOf
    : List Operation → List Pair → ConsistencyModel → Bool → Transactions → TxnFinding → Type 0
SaysOf history pairs model explain read (found.Valid order) =
    IsOrderFor read.txns.items model order.items
SaysOf history pairs model explain read (found.BadRead place index kind operations) =
    IsBadRead read.txns.items place index kind
    × AreShown history pairs explain (place ∷ []) operations
SaysOf history pairs model explain read (found.Cycle steps operations) =
    (cycle : List Step) × IsCycleFor read.txns.items model cycle
    × AreFoundSteps read.keys read.elements cycle steps.items
    × AreShown history pairs explain (map (λ step. step.place) cycle) operations
SaysOf history pairs model explain read found.Unknown =
    (is_of_snapshots model ≡ true) × HasUntoldPair read.txns.items

-- A finding about the transactions of the pairs of a history, judged by a model.
pub record IsTxnFinding (history : List Operation) (pairs : List Pair) (model : ConsistencyModel)
    (explain : Bool) (finding : TxnFinding) : Type 0 where
  pub read : Transactions
  pub transactions : AreTransactions history pairs read
  pub says : SaysOf history pairs model explain read finding
