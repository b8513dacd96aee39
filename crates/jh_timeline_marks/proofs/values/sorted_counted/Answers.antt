use Rattle.std.proofs.Common.{ap, ◌∙◌}
use Rattle.jh_edn.specs.View.{views}
use Rattle.jh_timeline_marks.proofs.MarkLemmas.{ids_more}
use Rattle.jh_timeline_marks.proofs.values.sorted_counted.Goals as goal

pub loop-counted-preserved : goal.loop-counted-preserved
loop-counted-preserved c =
    let l = c.loop-counted in
    ap views c.in_ok-push.ensures.items
    ∙ ids_more l.copies.items c.args.tally.now l.counted-index c.counted-item.result _ c.loop-counted-test.true c.counted-item.is c.in_ok-copy.ensures l.invariant
