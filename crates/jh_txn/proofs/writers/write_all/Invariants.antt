use Rattle.std.proofs.Common.{take}
use Rattle.jh_txn.specs.SnapshotCheckInside.{AreWritersAfter, MayDoAll}
use Rattle.jh_txn.proofs.writers.write_all.Given as goal

abbrev pub invariant-loop-op : goal.invariant-loop-op
invariant-loop-op l = record {
  may : MayDoAll l.fn.last l.over l.place (take l.op-index l.ops);
  after : AreWritersAfter l.place (take l.op-index l.ops) l.fn.last l.last;
}
