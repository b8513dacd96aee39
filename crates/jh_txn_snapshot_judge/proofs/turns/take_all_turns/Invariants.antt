use Rattle.std.proofs.Common.{take}
use Rattle.jh_txn_snapshot_judge.proofs.TurnLemmas.{AreTurnsOf}
use Rattle.jh_txn_snapshot_judge.proofs.turns.take_all_turns.Given as goal

abbrev pub invariant-loop-node : goal.invariant-loop-node
invariant-loop-node l = AreTurnsOf l.txns l.untold (take l.node-index l.order) l.last l.turns.items
