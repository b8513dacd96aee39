use Rattle.jh_edn.specs.View.{views}
use Rattle.jh_bands.proofs.MomentLemmas.{going_on}
use Rattle.jh_bands.proofs.moment.changes_in.Goals as goal

pub loop-index-preserved : goal.loop-index-preserved
loop-index-preserved c =
    let l = c.loop-index in
    going_on l.moment c.pass.new.self l.changes.items c.pass.new.changes.items (views c.args.steps.now) c.args.history.now l.index c.index-history-index.result
    c.loop-index-test.true c.index-history-index.is c.in_ok-pass.ensures.goes c.in_ok-pass.ensures.changes l.invariant
