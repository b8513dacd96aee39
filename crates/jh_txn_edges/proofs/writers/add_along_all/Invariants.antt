use Rattle.jh_txn_seen.specs.Reads.{longest_of}
use Rattle.jh_txn_edges.specs.Steps.{IsAlong}
use Rattle.jh_txn_edges.specs.Inside.{AddsSteps}
use Rattle.jh_txn_edges.proofs.StepLemmas.{StepsBelow}
use Rattle.jh_txn_edges.proofs.writers.add_along_all.Given as goal

abbrev pub invariant-loop-key : goal.invariant-loop-key
invariant-loop-key l = AddsSteps (StepsBelow (λ k. IsAlong l.writers k (longest_of l.longest k)) l.key) l.fn.graph l.graph
