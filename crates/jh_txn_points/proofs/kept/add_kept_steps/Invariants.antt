use Rattle.jh_txn_edges.specs.Inside.{AddsSteps}
use Rattle.jh_txn_edges.proofs.StepLemmas.{StepsBelow}
use Rattle.jh_txn_points.specs.Inside.{IsKeptStepTo}
use Rattle.jh_txn_points.proofs.kept.add_kept_steps.Given as goal

abbrev pub invariant-loop-node : goal.invariant-loop-node
invariant-loop-node l = AddsSteps (StepsBelow (IsKeptStepTo l.count l.keys l.edges) l.node) l.fn.graph l.graph
