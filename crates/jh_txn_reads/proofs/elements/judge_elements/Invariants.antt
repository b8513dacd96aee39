use Rattle.std.proofs.Common.{◌≡◌, ℕ, true, take}
use Rattle.jh_txn.specs.Transactions.{includes}
use Rattle.jh_txn_reads.specs.Inside.{IsSoundElement}
use Rattle.jh_txn_reads.proofs.elements.judge_elements.Given as goal

abbrev pub invariant-loop-element : goal.invariant-loop-element
invariant-loop-element l = (element : ℕ) → includes (take l.element-index l.base) element ≡ true → IsSoundElement l.txns l.place l.key l.base element
