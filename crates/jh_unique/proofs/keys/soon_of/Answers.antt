use Rattle.std.proofs.Common.{◌<◌, length, arith}
use Rattle.jh_unique.proofs.KeyLemmas.{soon_more}
use Rattle.jh_unique.proofs.keys.soon_of.Goals as goal

pub loop-number-preserved : goal.loop-number-preserved
loop-number-preserved c =
    let i = c.loop-number.number-index in
    let low : i < length c.args.list.now = omega arith in
    soon_more c.args.ops.now c.args.list.now i low c.op_at.result c.op_at.ensures c.loop-number.soon c.end_of.result c.min-soon.result c.end_of.ensures.least c.end_of.ensures.which c.min-soon.ensures c.loop-number.invariant
