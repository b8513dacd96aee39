use Rattle.std.proofs.Common.{◌<◌, length, take, arith}
use Rattle.jh_txn_histories.specs.Histories.{IsNumbered}
use Rattle.jh_txn_histories.specs.ReadingInside.{written, written_ops}
use Rattle.jh_txn_histories.proofs.GrowLemmas.{grows_then, map_zip_push, ops_stay}
use Rattle.jh_txn_histories.proofs.numbered.number_ops.Goals as goal

pub loop-op-preserved : goal.loop-op-preserved
loop-op-preserved c =
    let l = c.loop-op in
    let ops = c.args.ops.now in
    let new = c.number_op.new.tables in
    let low : l.op-index < length ops = omega arith in
    record {
      numbered = map_zip_push written (IsNumbered new.keys new.elements) ops l.op-index c.op-item.result l.numbered.items c.push.new.self.items c.in_ok-number_op.field-0 low c.op-item.is c.in_ok-push.ensures.items
          (ops_stay l.tables new c.in_ok-number_op.ensures.grows (written_ops (take l.op-index ops)) l.numbered.items l.invariant.numbered) c.in_ok-number_op.ensures.numbered;
      grows = grows_then c.args.tables.now l.tables new l.invariant.grows c.in_ok-number_op.ensures.grows;
    }
