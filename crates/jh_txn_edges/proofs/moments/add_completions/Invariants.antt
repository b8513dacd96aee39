use Rattle.jh_txn_edges.specs.Moments.{IsCompletionStep}
use Rattle.jh_txn_edges.specs.Inside.{AddsSteps}
use Rattle.jh_txn_edges.proofs.StepLemmas.{StepsBelow}
use Rattle.jh_txn_edges.proofs.moments.add_completions.Given as goal

abbrev pub invariant-loop-place : goal.invariant-loop-place
invariant-loop-place l = AddsSteps (StepsBelow (IsCompletionStep l.txns l.moments l.first) l.place) l.fn.graph l.graph
