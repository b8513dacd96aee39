use Rattle.std.proofs.Common.{◌≡◌, take, drop}
use Rattle.jh_txn.specs.Cycles.{first_place}
use Rattle.jh_txn_snapshot_judge.specs.Nodes.{point_steps}
use Rattle.jh_txn_snapshots.specs.PointCycles.{dependency_steps}
use Rattle.jh_txn_snapshot_judge.proofs.nodes.dependencies_of.Given as goal

abbrev pub invariant-loop-index : goal.invariant-loop-index
invariant-loop-index l = l.dependencies.items ≡ dependency_steps (point_steps l.count (take l.index l.steps) (first_place (drop l.index l.steps) (first_place l.steps 0)))
