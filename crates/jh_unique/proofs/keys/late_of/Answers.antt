use Rattle.std.proofs.Common.{◌<◌, length, arith}
use Rattle.jh_unique.proofs.KeyLemmas.{latest_more}
use Rattle.jh_unique.proofs.keys.late_of.Goals as goal

pub loop-number-preserved : goal.loop-number-preserved
loop-number-preserved c =
    let i = c.loop-number.number-index in
    let low : i < length c.args.list.now = omega arith in
    latest_more c.args.ops.now c.args.list.now i low c.op_at.result c.op_at.ensures c.loop-number.late c.max-late.result c.max-late.ensures c.loop-number.invariant
