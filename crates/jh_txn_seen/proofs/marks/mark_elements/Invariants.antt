use Rattle.std.proofs.Common.{◌≡◌, get_or}
use Rattle.jh_txn_seen.specs.Marks.{AddsMarks}
use Rattle.jh_txn_seen.proofs.MarkLemmas.{NumbersBelow}
use Rattle.jh_txn_seen.proofs.marks.mark_elements.Given as goal

abbrev pub invariant-loop-element : goal.invariant-loop-element
invariant-loop-element l = AddsMarks (NumbersBelow (λ k n. n ≡ get_or l.seen k 0) l.element-index) l.fn.marks l.marks
