use Rattle.std.proofs.Common.{◌≡◌, true}
use Rattle.jh_txn.specs.Transactions.{includes}
use Rattle.jh_txn_seen.specs.Marks.{AddsMarks}
use Rattle.jh_txn_seen.specs.Reads.{longest_of}
use Rattle.jh_txn_seen.proofs.MarkLemmas.{NumbersBelow}
use Rattle.jh_txn_seen.proofs.marks.mark_longest.Given as goal

abbrev pub invariant-loop-key : goal.invariant-loop-key
invariant-loop-key l = AddsMarks (NumbersBelow (λ k n. includes (longest_of l.longest k) n ≡ true) l.key) l.fn.marks l.marks
