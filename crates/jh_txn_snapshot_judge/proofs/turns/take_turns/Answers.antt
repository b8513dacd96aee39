use Rattle.std.proofs.Common.{◌<◌, length, arith}
use Rattle.jh_txn_snapshot_judge.proofs.TurnLemmas.{takes_more}
use Rattle.jh_txn_snapshot_judge.proofs.turns.take_turns.Goals as goal

pub loop-op-preserved : goal.loop-op-preserved
loop-op-preserved c =
    let low : c.loop-op.op-index < length c.args.ops.now = omega arith in
    takes_more c.args.untold.now c.args.place c.args.ops.now c.loop-op.op-index c.op-item.result c.args.last.now c.loop-op.last c.take_turn_of.new.last c.args.turns.now.items c.loop-op.turns.items c.take_turn_of.new.turns.items low c.op-item.is c.loop-op.invariant c.in_ok-take_turn_of.ensures
