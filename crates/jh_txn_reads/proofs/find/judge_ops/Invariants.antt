use Rattle.std.proofs.Common.{◌+◌, []}
use Rattle.jh_txn_reads.specs.Inside.{AreElementMarks, AreEmptyFrom, AreViewsAt}
use Rattle.jh_txn_reads.proofs.find.judge_ops.Given as goal

abbrev pub invariant-loop-index : goal.invariant-loop-index
invariant-loop-index l = record {
  views : AreViewsAt l.txns l.place l.index l.views;
  empty : AreEmptyFrom (l.place + 1) l.views;
  clear : AreElementMarks [] l.marks;
}
