use Rattle.std.proofs.Common.{◌≡◌, take, map}
use Rattle.jh_txn_snapshot_judge.specs.Nodes.{point_at}
use Rattle.jh_txn_snapshot_judge.proofs.nodes.points_of_nodes.Given as goal

abbrev pub invariant-loop-node : goal.invariant-loop-node
invariant-loop-node l = l.points.items ≡ map (point_at l.count) (take l.node-index l.nodes)
