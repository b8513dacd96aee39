use Rattle.jh_txn_edges.specs.Inside.{AddsSteps}
use Rattle.jh_txn_edges.proofs.StepLemmas.{StepsBelow}
use Rattle.jh_txn_points.specs.ForkGraph.{IsWinStep}
use Rattle.jh_txn_points.proofs.fork.add_win_steps_of.Given as goal

abbrev pub invariant-loop-element : goal.invariant-loop-element
invariant-loop-element l = AddsSteps (StepsBelow (IsWinStep l.count l.writers l.there l.read l.own) l.element) l.fn.graph l.graph
