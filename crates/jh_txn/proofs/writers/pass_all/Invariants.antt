use Rattle.std.proofs.Common.{◌≡◌, take, length}
use Rattle.jh_txn.specs.OrderCheckInside.{AreMarks}
use Rattle.jh_txn.specs.SnapshotCheckInside.{AreLastWriters}
use Rattle.jh_txn.specs.SnapshotOrders.{AreWritersApart, commits}
use Rattle.jh_txn.proofs.writers.pass_all.Given as goal

abbrev pub invariant-loop-point : goal.invariant-loop-point
invariant-loop-point l = record {
  count : length l.last ≡ length l.fn.last;
  over : AreMarks (length l.txns) (commits (take l.point-index l.points)) l.over;
  last : AreLastWriters l.txns (take l.point-index l.points) l.last;
  apart : AreWritersApart l.txns (take l.point-index l.points);
}
