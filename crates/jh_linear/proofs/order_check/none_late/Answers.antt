use Rattle.jh_linear.proofs.NumberSetLemmas.{not_true}
use Rattle.jh_linear.proofs.OrderLemmas.{none_more, high_more, some_more}
use Rattle.jh_linear.proofs.order_check.none_late.Goals as goal

pub loop-number-preserved : goal.loop-number-preserved
loop-number-preserved c =
    let ops = c.args.ops.now in
    let order = c.args.order.now in
    let l = c.loop-number in
    let op = c.op_at-op.result in
    let is = c.op_at-op.ensures in
    record {
      so_far = none_more ops order l.number-index l.latest op is (λ over. not_true _ (c.is_over.ensures.1 over) c.if-is_over.false) l.invariant.high l.invariant.so_far;
      high = high_more ops order l.number-index l.latest c.max-latest.result op is c.max-latest.ensures l.invariant.high;
      some = some_more ops order l.number-index l.latest c.max-latest.result op is c.max-latest.ensures l.invariant.some;
    }
