use Rattle.std.proofs.Common.{ap, ◌∙◌}
use Rattle.jh_edn.specs.View.{views}
use Rattle.jh_timeline_marks.proofs.QueueLemmas.{stale_more}
use Rattle.jh_timeline_marks.proofs.set_full.sorted_stale.Goals as goal

pub loop-stale-preserved : goal.loop-stale-preserved
loop-stale-preserved c =
    let l = c.loop-stale in
    ap views c.in_ok-push.ensures.items
    ∙ stale_more l.copies.items c.args.stales.now l.stale-index c.stale-item.result _ c.loop-stale-test.true c.stale-item.is c.in_ok-copy.ensures l.invariant
