use Rattle.std.proofs.Common.{take}
use Rattle.jh_txn.specs.OrderCheckInside.{AreMarks}
use Rattle.jh_txn.specs.Transactions.{HasNoRepeat}
use Rattle.jh_txn.proofs.order_check.marked.Given as goal

abbrev pub invariant-loop-place : goal.invariant-loop-place
invariant-loop-place l = record {
  distinct : HasNoRepeat (take l.place-index l.order);
  marks : AreMarks l.count (take l.place-index l.order) l.marks.items;
}
