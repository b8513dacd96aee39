use Rattle.std.proofs.Common.{◌≡◌, ℕ, ◌<◌, length}
use Rattle.std.specs.Prelude.{◌↔◌}
use Rattle.jh_txn.specs.Transactions.{IsDoneAt}
use Rattle.jh_txn_seen.specs.Marks.{IsMarked}
use Rattle.jh_txn_seen.proofs.marks.marks_of_done.Given as goal

abbrev pub invariant-loop-txn : goal.invariant-loop-txn
invariant-loop-txn l = record {
  count : length l.there.items ≡ l.txn-index;
  done : (k : ℕ) → k < l.txn-index → IsMarked l.there.items k ↔ IsDoneAt l.txns k;
}
