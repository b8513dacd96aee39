use Rattle.std.proofs.Common.{◌≤◌, ◌+◌, sum}
use Rattle.jh_txn_graph.specs.WalkInside.{HaveFewer, IsWalk, turns_at, step_count}
use Rattle.jh_txn_graph.proofs.walk.finish.Given as goal

abbrev pub invariant-loop-walk : goal.invariant-loop-walk
invariant-loop-walk l = record {
  is_walk : IsWalk l.graph l.walk;
  fewer : HaveFewer l.fn.walk.left.items l.walk.left.items;
  begun : turns_at l.walk.left.items l.node ≤ step_count l.graph l.node + 1;
}

abbrev pub decreases-loop-walk : goal.decreases-loop-walk
decreases-loop-walk l = sum l.walk.left.items
