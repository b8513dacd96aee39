use Rattle.std.proofs.Common.{◌≡◌, Some, get_or}
use Rattle.jh_txn_seen.specs.Marks.{AddsMarks}
use Rattle.jh_txn_seen.specs.Places.{writer_place}
use Rattle.jh_txn_seen.proofs.MarkLemmas.{NumbersBelow}
use Rattle.jh_txn_seen.proofs.marks.mark_shown_by.Given as goal

abbrev pub invariant-loop-element : goal.invariant-loop-element
invariant-loop-element l = AddsMarks (NumbersBelow (λ k n. writer_place l.writers l.read.key (get_or l.read.seen.now k 0) ≡ Some n) l.element-index) l.fn.there l.there
