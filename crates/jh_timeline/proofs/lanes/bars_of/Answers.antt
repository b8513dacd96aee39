use Rattle.jh_timeline.proofs.EndLemmas.{going_here, going_more}
use Rattle.jh_timeline.proofs.lanes.bars_of.Goals as goal

pub take_lane-requires : goal.take_lane-requires
take_lane-requires c =
    let l = c.loop-call in
    going_here l.held l.ends l.bars.items c.args.calls.now l.call-index _ c.requires c.loop-call-test.true l.invariant

pub loop-call-preserved : goal.loop-call-preserved
loop-call-preserved c =
    let l = c.loop-call in
    going_more l.held c.take_lane.new.held l.ends c.take_lane.new.ends l.bars.items c.push.new.self.items c.args.calls.now l.call-index c.in_ok-lane.lane _
    c.requires c.loop-call-test.true c.in_ok-lane.ensures.takes c.in_ok-lane.ensures.kept l.invariant c.in_ok-push.ensures.items
