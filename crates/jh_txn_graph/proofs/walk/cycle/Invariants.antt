use Rattle.std.proofs.Common.{length}
use Rattle.jh_txn_graph.specs.WalkInside.{IsReturning}
use Rattle.jh_txn_graph.proofs.walk.cycle.Given as goal

abbrev pub invariant-loop-node : goal.invariant-loop-node
invariant-loop-node l = IsReturning l.graph l.walk.left.items l.walk.path.items l.steps.items l.place

abbrev pub decreases-loop-node : goal.decreases-loop-node
decreases-loop-node l = length l.walk.path.items
