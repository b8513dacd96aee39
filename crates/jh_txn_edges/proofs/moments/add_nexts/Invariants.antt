use Rattle.std.proofs.Common.{◌<◌, ◌≤◌, length}
use Rattle.jh_txn_edges.specs.Inside.{AddsSteps}
use Rattle.jh_txn_edges.proofs.MomentLemmas.{NextAt}
use Rattle.jh_txn_edges.proofs.StepLemmas.{StepsBelow}
use Rattle.jh_txn_edges.proofs.moments.add_nexts.Given as goal

abbrev pub invariant-loop-point : goal.invariant-loop-point
invariant-loop-point l = record {
  steps : AddsSteps (StepsBelow (NextAt l.first) l.point) l.fn.graph l.graph;
  bound : 1 < l.point → l.point ≤ length l.moments;
}
