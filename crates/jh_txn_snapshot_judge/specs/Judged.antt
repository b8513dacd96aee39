-- What the judge's answers say. This project's own.
use Rattle.std.specs.Prelude.{◌≢◌, ℕ, Bool, true, false, List}
use Rattle.jh_txn.specs.BadReads.{IsBadRead}
use Rattle.jh_txn.specs.Cycles.{IsSnapshotCycle}
use Rattle.jh_txn.specs.Dependencies.{MustBeThere}
use Rattle.jh_txn.specs.SnapshotOrders.{IsSnapshotOrderFor}
use Rattle.jh_txn.specs.declared.model.ConsistencyModel.{ConsistencyModel}
use Rattle.jh_txn.specs.declared.model.ConsistencyModel.TheVariants.{SnapshotIsolation}
use Rattle.jh_txn.specs.declared.model.ConsistencyModel.TheVariants.{StrongSnapshotIsolation}
use Rattle.jh_txn.specs.declared.txn.Txn.{Txn}
use Rattle.jh_txn_snapshot_judge.specs.declared.verdict.SnapshotVerdict.{SnapshotVerdict}
use Rattle.jh_txn_snapshot_judge.specs.declared.verdict.SnapshotVerdict.TheVariants.{BadRead, Cycle}
use Rattle.jh_txn_snapshot_judge.specs.declared.verdict.SnapshotVerdict.TheVariants.{Unknown, Valid}
use Rattle.jh_txn_snapshots.specs.Untold.{IsUntold}

-- the model that asks for a snapshot order, which keeps real time or need not
abbrev pub snapshot_model : Bool → ConsistencyModel
snapshot_model true = StrongSnapshotIsolation
snapshot_model false = SnapshotIsolation

-- some key has two untold writers that must be there
abbrev pub HasUntoldPair : List Txn → Type 0
HasUntoldPair txns =
    (key one other first second : ℕ) × (first ≢ second) × IsUntold txns key one first
    × IsUntold txns key other second × MustBeThere txns first × MustBeThere txns second

-- A snapshot order, which keeps real time where that is asked for; or what excludes each one: a read
-- that no order explains, or a cycle of dependencies. Or nothing, where a key has two writers of which
-- no read tells the order.
abbrev pub IsSnapshotJudged : List Txn → Bool → SnapshotVerdict → Type 0
IsSnapshotJudged txns real_time (Valid points) = IsSnapshotOrderFor txns real_time points.items
IsSnapshotJudged txns real_time (BadRead at) = IsBadRead txns at.place at.index at.kind
IsSnapshotJudged txns real_time (Cycle steps) =
    IsSnapshotCycle txns (snapshot_model real_time) steps.items
IsSnapshotJudged txns real_time Unknown = HasUntoldPair txns
