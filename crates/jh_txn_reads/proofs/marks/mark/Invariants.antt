use Rattle.std.proofs.Common.{take}
use Rattle.jh_txn.specs.Transactions.{HasNoRepeat}
use Rattle.jh_txn_reads.specs.Inside.{AreElementMarks}
use Rattle.jh_txn_reads.proofs.marks.mark.Given as goal

abbrev pub invariant-loop-element : goal.invariant-loop-element
invariant-loop-element l = record {
  distinct : HasNoRepeat (take l.element-index l.list);
  marked : AreElementMarks (take l.element-index l.list) l.marks;
}
