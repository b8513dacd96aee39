use Rattle.std.proofs.Common.{◌≡◌, length}
use Rattle.jh_txn.specs.OrderCheckInside.{AreAllEmpty}
use Rattle.jh_txn.proofs.reads.empty_lists.Given as goal

abbrev pub invariant-loop-key : goal.invariant-loop-key
invariant-loop-key l = record {
  count : length l.lists.items ≡ l._key;
  empty : AreAllEmpty l.lists.items;
}
