use Rattle.std.proofs.Common.{◌<◌, length, arith}
use Rattle.jh_unique.proofs.LateLemmas.{late_found, late_more, inside_more, high_more}
use Rattle.jh_unique.proofs.late.find_late.Goals as goal

pub returns-in-Some : goal.returns-in-Some
returns-in-Some c =
    let i = c.loop-number.number-index in
    let order = c.args.order.now in
    let low : i < length order = omega arith in
    let e = c.in-Some.ensures {u = tt} in
    (late_found c.args.ops.now order i low c.in-Some.first (c.loop-number.invariant.inside c.in-Some.first e.0), e.1)

pub loop-number-preserved : goal.loop-number-preserved
loop-number-preserved c =
    let i = c.loop-number.number-index in
    let ops = c.args.ops.now in
    let order = c.args.order.now in
    let low : i < length order = omega arith in
    let l = c.loop-number in
    let e = c.latest_with.ensures in
    record {
      so_far = late_more ops order i low l.latest l.invariant.so_far l.invariant.high c.in_default.ensures;
      inside = inside_more ops order i low l.latest c.latest_with.result l.invariant.inside e.which;
      high = high_more ops order i low l.latest c.latest_with.result l.invariant.high e.this e.others;
    }
