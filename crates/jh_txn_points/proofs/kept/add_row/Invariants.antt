use Rattle.jh_txn_edges.specs.Inside.{AddsSteps}
use Rattle.jh_txn_edges.proofs.StepLemmas.{StepsBelow}
use Rattle.jh_txn_points.proofs.PointStepLemmas.{RowAt}
use Rattle.jh_txn_points.proofs.kept.add_row.Given as goal

abbrev pub invariant-loop-step : goal.invariant-loop-step
invariant-loop-step l = AddsSteps (StepsBelow (RowAt l.count l.keys l.row l.node) l.step-index) l.fn.graph l.graph
