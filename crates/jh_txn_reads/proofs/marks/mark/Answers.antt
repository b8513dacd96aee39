use Rattle.std.proofs.Common.{◌<◌, length, get_or, sym, ◌∙◌, arith}
use Rattle.std.proofs.lemmas.Bool.{false≢true}
use Rattle.jh_txn.proofs.ListLemmas.{none_twice, twice_at}
use Rattle.jh_txn_reads.proofs.MarkLemmas.{distinct_more, marks_more}
use Rattle.jh_txn_reads.proofs.marks.mark.Goals as goal

pub loop-element-init : goal.loop-element-init
loop-element-init c = record { distinct = none_twice; marked = c.requires.clear }

pub returns-then-marks-element-clause-distinct : goal.returns-then-marks-element-clause-distinct
returns-then-marks-element-clause-distinct c =
    let list = c.args.list.now in
    let i = c.loop-element.element-index in
    let low : i < length list = omega arith in
    let again = sym (c.loop-element.invariant.marked (get_or list i 0)) ∙ c.if-marks-element.true in
    (λ e. absurd (false≢true e), λ once. absurd (twice_at list i low again once))

pub loop-element-preserved : goal.loop-element-preserved
loop-element-preserved c =
    let list = c.args.list.now in
    let marks = c.loop-element.marks in
    let i = c.loop-element.element-index in
    let low : i < length list = omega arith in
    let there : get_or list i 0 < length marks = omega (arith, c.requires.below i 0 low) in
    let new = sym (c.loop-element.invariant.marked (get_or list i 0)) ∙ c.if-marks-element.false in
    record {
      distinct = distinct_more list marks i low there c.loop-element.invariant.distinct new;
      marked = marks_more list marks i low there c.loop-element.invariant.marked;
    }
