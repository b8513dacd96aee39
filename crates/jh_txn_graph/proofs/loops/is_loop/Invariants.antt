use Rattle.std.proofs.Common.{◌≡◌, ◌≤◌, drop, length}
use Rattle.jh_txn.specs.Cycles.{first_place}
use Rattle.jh_txn_graph.specs.WalkInside.{AreLinked}
use Rattle.jh_txn_graph.proofs.loops.is_loop.Given as goal

abbrev pub invariant-loop-index : goal.invariant-loop-index
invariant-loop-index l =
    (l.index ≤ length l.steps) × AreLinked l.graph (drop l.index l.steps) (first_place l.steps 0)
    × (l.target ≡ first_place (drop l.index l.steps) (first_place l.steps 0))

abbrev pub decreases-loop-index : goal.decreases-loop-index
decreases-loop-index l = l.index
