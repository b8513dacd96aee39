use Rattle.std.proofs.Common.{◌<◌, ℕ, take, length, get_or}
use Rattle.jh_txn.specs.OrderCheckInside.{AreListsAfter}
use Rattle.jh_txn.specs.SerialOrders.{IsExplainedBy}
use Rattle.jh_txn.proofs.reads.run_all.Given as goal

abbrev pub invariant-loop-place : goal.invariant-loop-place
invariant-loop-place l = record {
  lists : AreListsAfter l.txns (length l.fn.lists) (take l.place-index l.order) l.lists;
  explained : (i : ℕ) → i < l.place-index → IsExplainedBy l.txns (take i l.order) (get_or l.order i 0);
}
