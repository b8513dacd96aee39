use Rattle.std.proofs.Common.{◌<◌, ◌≤◌, length}
use Rattle.jh_txn_edges.specs.Inside.{AddsSteps}
use Rattle.jh_txn_edges.proofs.StepLemmas.{PairAt, StepsBelow}
use Rattle.jh_txn_edges.proofs.writers.add_along.Given as goal

abbrev pub invariant-loop-next : goal.invariant-loop-next
invariant-loop-next l = record {
  steps : AddsSteps (StepsBelow (PairAt l.writers l.key l.seen) l.next) l.fn.graph l.graph;
  bound : 1 < l.next → l.next ≤ length l.seen;
}
