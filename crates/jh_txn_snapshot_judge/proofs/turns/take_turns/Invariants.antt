use Rattle.std.proofs.Common.{take}
use Rattle.jh_txn_snapshot_judge.specs.TurnsInside.{TakesTurns}
use Rattle.jh_txn_snapshot_judge.proofs.turns.take_turns.Given as goal

abbrev pub invariant-loop-op : goal.invariant-loop-op
invariant-loop-op l = TakesTurns l.untold l.place (take l.op-index l.ops) l.fn.last l.last l.fn.turns.items l.turns.items
