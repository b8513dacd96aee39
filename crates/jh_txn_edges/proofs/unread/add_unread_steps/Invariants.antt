use Rattle.jh_txn_edges.specs.MiddleSteps.{IsUnreadStep}
use Rattle.jh_txn_edges.specs.Inside.{AddsSteps}
use Rattle.jh_txn_edges.proofs.StepLemmas.{StepsBelow}
use Rattle.jh_txn_edges.proofs.unread.add_unread_steps.Given as goal

abbrev pub invariant-loop-element : goal.invariant-loop-element
invariant-loop-element l = AddsSteps (StepsBelow (IsUnreadStep l.writers l.there l.marks l.middles) l.element) l.fn.graph l.graph
