use Rattle.std.proofs.Common.{◌≡◌, ◌<◌, ℕ, []}
use Rattle.jh_txn_graph.specs.WalkInside.{IsWalk, turns_at}
use Rattle.jh_txn_graph.proofs.walk.search.Given as goal

abbrev pub invariant-loop-node : goal.invariant-loop-node
invariant-loop-node l = record {
  is_walk : IsWalk l.graph l.walk;
  empty : l.walk.path.items ≡ [];
  finished : (k : ℕ) → k < l.node → turns_at l.walk.left.items k ≡ 0;
}
