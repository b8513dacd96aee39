use Rattle.std.proofs.Common.{◌≡◌, ◌<◌, ℕ, true, false, get_or}
use Rattle.jh_txn.specs.Transactions.{IsDoneAt}
use Rattle.jh_txn.proofs.order_check.has_all_done.Given as goal

abbrev pub invariant-loop-place : goal.invariant-loop-place
invariant-loop-place l = (place : ℕ) → place < l.place → IsDoneAt l.txns place → get_or l.marks place false ≡ true
