use Rattle.std.proofs.Common.{◌<◌, length, sym, ◌∙◌, arith}
use Rattle.jh_txn.proofs.ListLemmas.{none_twice, twice_at}
use Rattle.jh_txn.proofs.OrderCheckLemmas.{no_marks, is_marked, marks_more, distinct_more}
use Rattle.jh_txn.proofs.order_check.marked.Goals as goal

pub loop-place-init : goal.loop-place-init
loop-place-init c = record { distinct = none_twice; marks = no_marks c.args.count c.in_ok-marks.marks.items (c.in_ok-marks.ensures.items_if_clones_equal (λ y same. same)) }

pub returns-then-index : goal.returns-then-index
returns-then-index c =
    let i = c.loop-place.place-index in
    let low : i < length c.args.order.now = omega arith in
    let is = is_marked c.args.count c.args.order.now c.loop-place.marks.items i low (c.requires i 0 low) c.loop-place.invariant.marks c.index.result.now c.index.ensures in
    twice_at c.args.order.now i low (sym is ∙ c.if-index.true)

pub loop-place-preserved : goal.loop-place-preserved
loop-place-preserved c =
    let i = c.loop-place.place-index in
    let low : i < length c.args.order.now = omega arith in
    let there = c.requires i 0 low in
    let is = is_marked c.args.count c.args.order.now c.loop-place.marks.items i low there c.loop-place.invariant.marks c.index.result.now c.index.ensures in
    record {
      distinct = distinct_more c.args.count c.args.order.now c.loop-place.marks.items i low there c.loop-place.invariant.marks c.loop-place.invariant.distinct (sym is ∙ c.if-index.false);
      marks = marks_more c.args.count c.args.order.now c.loop-place.marks.items i low there c.loop-place.invariant.marks;
    }
