use Rattle.std.proofs.Common.{◌≡◌, ℕ, true, Some, drop}
use Rattle.jh_txn.specs.Transactions.{ComesBefore, includes}
use Rattle.jh_txn_reads.specs.Inside.{AreElementMarks, previous_of}
use Rattle.jh_txn_reads.proofs.marks.unmark.Given as goal

abbrev pub invariant-loop-element : goal.invariant-loop-element
invariant-loop-element l = record {
  marked : AreElementMarks (drop l.element-index l.list) l.marks;
  in_turn : (one other : ℕ) → previous_of l.writers other ≡ Some one → ComesBefore l.list other one → includes (drop l.element-index l.list) other ≡ true;
}
