use Rattle.std.proofs.Common.{◌≡◌, length}
use Rattle.jh_txn_writers.specs.TableInside.{AreEntriesUpTo}
use Rattle.jh_txn_writers.proofs.table.enter_appends.Given as goal

abbrev pub invariant-loop-op : goal.invariant-loop-op
invariant-loop-op l = record {
  keys : length l.entries.last.items ≡ length l.fn.entries.last.items;
  elements : length l.entries.table.items ≡ length l.fn.entries.table.items;
  entered : AreEntriesUpTo l.txns l.place l.op-index l.entries;
}
