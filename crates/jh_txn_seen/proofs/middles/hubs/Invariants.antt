use Rattle.std.proofs.Common.{◌≡◌, ℕ, ◌+◌, Some, length}
use Rattle.std.specs.Prelude.{slice_get}
use Rattle.jh_txn_seen.specs.declared.middles.Middle.{Middle}
use Rattle.jh_txn_seen.proofs.middles.hubs.Given as goal

abbrev pub invariant-loop-node : goal.invariant-loop-node
invariant-loop-node l = record {
  count : l.first + length l.middles.items ≡ l.node;
  hubs : (key : ℕ) (middle : Middle) → slice_get l.middles.items key ≡ Some middle → middle.node ≡ l.first + key;
}
