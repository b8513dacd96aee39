use Rattle.jh_txn_edges.specs.Steps.{IsShownStep}
use Rattle.jh_txn_edges.specs.Inside.{AddsSteps}
use Rattle.std.proofs.Common.{get_or}
use Rattle.jh_txn_edges.proofs.StepLemmas.{StepsBelow}
use Rattle.jh_txn_edges.proofs.fork.add_shown.Given as goal

abbrev pub invariant-loop-element : goal.invariant-loop-element
invariant-loop-element l = AddsSteps (StepsBelow (λ k. IsShownStep l.writers l.read (get_or l.read.seen.now k 0)) l.element-index) l.fn.graph l.graph
