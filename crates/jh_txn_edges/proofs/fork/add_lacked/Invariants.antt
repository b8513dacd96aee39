use Rattle.jh_txn_edges.specs.Graph.{IsLackedThere}
use Rattle.jh_txn_edges.specs.Inside.{AddsSteps}
use Rattle.jh_txn_edges.proofs.StepLemmas.{StepsBelow}
use Rattle.jh_txn_edges.proofs.fork.add_lacked.Given as goal

abbrev pub invariant-loop-element : goal.invariant-loop-element
invariant-loop-element l = AddsSteps (StepsBelow (IsLackedThere l.writers l.there l.read) l.element) l.fn.graph l.graph
