use Rattle.std.proofs.Common.{◌≡◌, ◌<◌, ◌+◌, ℕ, length, get_or}
use Rattle.jh_txn_graph.specs.WalkInside.{step_count}
use Rattle.jh_txn_graph.proofs.walk.begin.Given as goal

abbrev pub invariant-loop-row : goal.invariant-loop-row
invariant-loop-row l = record {
  count : length l.left.items ≡ l.row-index;
  new : (k : ℕ) → k < l.row-index → get_or l.left.items k 0 ≡ step_count l.graph k + 2;
}
