use Rattle.std.proofs.Common.{◌≡◌, ◌<◌, ◌≤◌, ℕ, take}
use Rattle.jh_txn.specs.declared.txn.Point.TheVariants.{Start}
use Rattle.jh_txn.specs.RealTime.{invoked_at}
use Rattle.jh_txn.specs.SnapshotCheckInside.{IsNoCommitTooLate}
use Rattle.jh_txn.specs.SnapshotOrders.{HasPoint}
use Rattle.jh_txn.proofs.snapshot_check.no_commit_late.Given as goal

abbrev pub invariant-loop-point : goal.invariant-loop-point
invariant-loop-point l = record {
  none : IsNoCommitTooLate l.txns (take l.point-index l.points);
  high : (place : ℕ) → HasPoint (take l.point-index l.points) (Start place) → invoked_at l.txns place ≤ l.latest;
  reached : 0 < l.latest → (place : ℕ) × HasPoint (take l.point-index l.points) (Start place) × (invoked_at l.txns place ≡ l.latest);
}
