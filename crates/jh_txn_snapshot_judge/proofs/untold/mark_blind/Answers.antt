use Rattle.std.proofs.Common.{◌<◌, length, arith}
use Rattle.jh_txn_snapshot_judge.proofs.UntoldLemmas.{blind_more}
use Rattle.jh_txn_snapshot_judge.proofs.untold.mark_blind.Goals as goal

pub loop-op-preserved : goal.loop-op-preserved
loop-op-preserved c =
    let low : c.loop-op.op-index < length c.args.ops.now = omega arith in
    blind_more c.args.readers.now c.args.marks.now c.args.place c.args.ops.now c.loop-op.op-index c.op-item.result c.args.untold.now c.loop-op.untold c.mark_blind_op.new.untold low c.op-item.is c.loop-op.invariant c.mark_blind_op.ensures
