use Rattle.std.proofs.Common.{ℕ, ◌<◌, []}
use Rattle.jh_txn_reads.specs.Inside.{AreElementMarks, AreEmptyFrom, IsSoundTxn}
use Rattle.jh_txn_reads.proofs.find.judge_all.Given as goal

abbrev pub invariant-loop-place : goal.invariant-loop-place
invariant-loop-place l = record {
  sound : (place : ℕ) → place < l.place → IsSoundTxn l.txns place;
  empty : AreEmptyFrom l.place l.views;
  clear : AreElementMarks [] l.marks;
}
