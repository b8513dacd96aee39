use Rattle.jh_txn_edges.specs.Inside.{AddsSteps}
use Rattle.jh_txn_edges.proofs.StepLemmas.{StepsBelow}
use Rattle.jh_txn_points.proofs.PointStepLemmas.{HubAt}
use Rattle.jh_txn_points.proofs.unread.add_hub_steps.Given as goal

abbrev pub invariant-loop-read : goal.invariant-loop-read
invariant-loop-read l = AddsSteps (StepsBelow (HubAt l.count l.longest l.reads) l.read-index) l.fn.graph l.graph
