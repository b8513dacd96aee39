use Rattle.std.proofs.Common.{◌≡◌, ◌<◌, Some, length, refl, arith}
use Rattle.std.specs.Prelude.{slice_get}
use Rattle.std.proofs.lemmas.Option.{slice_get_read}
use Rattle.jh_txn_seen.proofs.ReadLemmas.{adds_reads_none, adds_reads_more}
use Rattle.jh_txn_seen.proofs.done_reads.add_reads.Goals as goal

pub loop-op-init : goal.loop-op-init
loop-op-init c = adds_reads_none c.args.place c.args.ops.now c.args.reads.now.items

pub loop-op-preserved : goal.loop-op-preserved
loop-op-preserved c =
    let low : c.loop-op.op-index < length c.args.ops.now = omega arith in
    let at : slice_get c.args.ops.now c.loop-op.op-index ≡ Some c.op-item.result = slice_get_read c.args.ops.now (length c.args.ops.now) c.loop-op.op-index c.op-item.result refl low c.op-item.is in
    adds_reads_more c.args.place c.args.ops.now c.loop-op.op-index c.op-item.result c.args.reads.now.items c.loop-op.reads.items c.add_read.new.reads.items at c.loop-op.invariant c.in_ok-add_read.ensures
