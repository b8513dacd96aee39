use Rattle.std.proofs.Common.{◌<◌, length, arith}
use Rattle.jh_txn_seen.proofs.MiddleLemmas.{notes_more, notes_nil}
use Rattle.jh_txn_seen.proofs.middles.note_unread.Goals as goal

pub loop-op-init : goal.loop-op-init
loop-op-init c = notes_nil c.args.marks.now c.args.place c.args.table.now

pub loop-op-preserved : goal.loop-op-preserved
loop-op-preserved c =
    let ops = c.args.ops.now in
    let i = c.loop-op.op-index in
    let low : i < length ops = omega arith in
    notes_more c.args.marks.now c.args.place ops i c.op-item.result c.args.table.now c.loop-op.table c.note_op.new.table low c.op-item.is c.loop-op.invariant c.note_op.ensures
