use Rattle.jh_txn_edges.specs.Inside.{AddsSteps}
use Rattle.jh_txn_edges.proofs.StepLemmas.{StepsBelow}
use Rattle.jh_txn_snapshot_judge.proofs.TurnLemmas.{TurnAt}
use Rattle.jh_txn_snapshot_judge.proofs.turns.add_turn_steps.Given as goal

abbrev pub invariant-loop-turn : goal.invariant-loop-turn
invariant-loop-turn l = AddsSteps (StepsBelow (TurnAt l.count l.turns) l.turn-index) l.fn.graph l.graph
