use Rattle.std.proofs.Common.{◌<◌, ℕ, take, length, get_or}
use Rattle.jh_txn.specs.declared.txn.Point.TheVariants.{Start}
use Rattle.jh_txn.specs.OrderCheckInside.{AreListsAfter}
use Rattle.jh_txn.specs.SnapshotCheckInside.{IsExplainedPoint}
use Rattle.jh_txn.specs.SnapshotOrders.{commits}
use Rattle.jh_txn.proofs.starts.run_points.Given as goal

abbrev pub invariant-loop-point : goal.invariant-loop-point
invariant-loop-point l = record {
  lists : AreListsAfter l.txns (length l.fn.lists) (commits (take l.point-index l.points)) l.lists;
  explained : (i : ℕ) → i < l.point-index → IsExplainedPoint l.txns (take i l.points) (get_or l.points i (Start 0));
}
