use Rattle.std.proofs.Common.{◌+◌}
use Rattle.jh_txn.specs.declared.dependency.Why.TheVariants.{RealTime}
use Rattle.jh_txn_edges.specs.Inside.{AddsSteps, IsThis}
use Rattle.jh_txn_edges.proofs.StepLemmas.{StepsBelow}
use Rattle.jh_txn_points.proofs.steps.add_commit_steps.Given as goal

abbrev pub invariant-loop-place : goal.invariant-loop-place
invariant-loop-place l = AddsSteps (StepsBelow (λ k. IsThis (record { place = k; why = RealTime }) (l.count + k)) l.place) l.fn.graph l.graph
