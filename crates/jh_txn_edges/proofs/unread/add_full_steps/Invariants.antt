use Rattle.jh_txn_edges.specs.Inside.{AddsSteps}
use Rattle.jh_txn_edges.proofs.MiddleStepLemmas.{FullAt}
use Rattle.jh_txn_edges.proofs.StepLemmas.{StepsBelow}
use Rattle.jh_txn_edges.proofs.unread.add_full_steps.Given as goal

abbrev pub invariant-loop-read : goal.invariant-loop-read
invariant-loop-read l = AddsSteps (StepsBelow (FullAt l.longest l.middles l.reads) l.read-index) l.fn.graph l.graph
