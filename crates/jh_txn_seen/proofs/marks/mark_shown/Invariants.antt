use Rattle.jh_txn_seen.specs.Marks.{AddsMarks}
use Rattle.jh_txn_seen.proofs.MarkLemmas.{NumbersBelow, ShownAt}
use Rattle.jh_txn_seen.proofs.marks.mark_shown.Given as goal

abbrev pub invariant-loop-read : goal.invariant-loop-read
invariant-loop-read l = AddsMarks (NumbersBelow (ShownAt l.writers l.reads) l.read-index) l.fn.there l.there
