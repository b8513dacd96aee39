use Rattle.jh_txn_edges.specs.Inside.{AddsSteps}
use Rattle.jh_txn_edges.proofs.StepLemmas.{StepsBelow}
use Rattle.jh_txn_points.specs.PointSteps.{IsUnreadPointStep}
use Rattle.jh_txn_points.proofs.unread.add_unread_steps.Given as goal

abbrev pub invariant-loop-element : goal.invariant-loop-element
invariant-loop-element l = AddsSteps (StepsBelow (IsUnreadPointStep l.count l.writers l.there l.marks l.longest l.middles) l.element) l.fn.graph l.graph
