use Rattle.std.proofs.Common.{◌≡◌, ℕ, ◌<◌, true}
use Rattle.jh_txn.specs.Transactions.{includes}
use Rattle.jh_txn_edges.specs.Moments.{IsDoneAtIndex, IsDoneFrom}
use Rattle.jh_txn_edges.proofs.moments.completions.Given as goal

abbrev pub invariant-loop-txn : goal.invariant-loop-txn
invariant-loop-txn l = record {
  whole : (place index : ℕ) → place < l.txn-index → IsDoneFrom l.txns place index → includes l.moments.items index ≡ true;
  only : (index : ℕ) → includes l.moments.items index ≡ true → IsDoneAtIndex l.txns index;
}
