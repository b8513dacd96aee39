use Rattle.std.proofs.Common.{◌≡◌, ◌<◌, length, get_or, arith}
use Rattle.jh_txn.proofs.ListLemmas.{place_included}
use Rattle.jh_txn_seen.proofs.MarkLemmas.{elements_all, marks_more, marks_none_below, marks_set}
use Rattle.jh_txn_seen.proofs.marks.mark_elements.Goals as goal

pub bounds-marks-element : goal.bounds-marks-element
bounds-marks-element c =
    let seen = c.args.seen.now in
    let i = c.loop-element.element-index in
    let low : i < length seen = omega arith in
    omega (arith, c.requires (get_or seen i 0) (place_included seen i low), c.loop-element.auto.marks)

pub loop-element-init : goal.loop-element-init
loop-element-init c = marks_none_below (λ k n. n ≡ get_or c.args.seen.now k 0) c.args.marks.now

pub loop-element-preserved : goal.loop-element-preserved
loop-element-preserved c =
    let seen = c.args.seen.now in
    let i = c.loop-element.element-index in
    let low : i < length seen = omega arith in
    let under : get_or seen i 0 < length c.loop-element.marks = omega (arith, c.requires (get_or seen i 0) (place_included seen i low), c.loop-element.auto.marks) in
    marks_more (λ k n. n ≡ get_or seen k 0) i c.args.marks.now c.loop-element.marks _ c.loop-element.invariant (marks_set c.loop-element.marks (get_or seen i 0) under)

pub returns : goal.returns
returns c =
    let all : c.loop-element.element-index ≡ length c.args.seen.now = omega arith in
    elements_all c.args.seen.now c.loop-element.element-index c.args.marks.now c.loop-element.marks all c.loop-element.invariant
