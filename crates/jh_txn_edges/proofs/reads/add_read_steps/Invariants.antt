use Rattle.jh_txn_edges.specs.Inside.{AddsSteps}
use Rattle.jh_txn_edges.proofs.StepLemmas.{StepsBelow}
use Rattle.jh_txn_edges.proofs.ReadStepLemmas.{ReadStepAt}
use Rattle.jh_txn_edges.proofs.reads.add_read_steps.Given as goal

abbrev pub invariant-loop-read : goal.invariant-loop-read
invariant-loop-read l = AddsSteps (StepsBelow (ReadStepAt l.writers l.longest l.reads) l.read-index) l.fn.graph l.graph
