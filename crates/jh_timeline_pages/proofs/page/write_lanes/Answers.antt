use Rattle.std.proofs.Common.{subst}
use Rattle.std.specs.Io.KnownBytes.{Appends}
use Rattle.jh_edn.proofs.CitedLemmas.{appends_then}
use Rattle.jh_timeline_pages.proofs.ListLemmas.{flat_map_next}
use Rattle.jh_timeline_pages.specs.Page.{lane_text}
use Rattle.jh_timeline_pages.proofs.page.write_lanes.Goals as goal

pub loop-lane-preserved : goal.loop-lane-preserved
loop-lane-preserved g c =
    let contents = g.W.Write.contents in
    let start = contents c.args.writer.now in
    let more = appends_then start (contents c.loop-lane.writer) (contents c.write_lane.new.writer) _ _ c.loop-lane.invariant c.in_ok-write_lane.ensures in
    subst (λ w. Appends start (contents c.write_lane.new.writer) w)
    (flat_map_next lane_text c.args.lanes.now c.loop-lane.lane-index c.lane-item.result c.loop-lane-test.true c.lane-item.is) more
