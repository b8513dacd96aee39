use Rattle.std.proofs.Common.{subst}
use Rattle.std.specs.Io.KnownBytes.{Appends}
use Rattle.jh_edn.proofs.CitedLemmas.{appends_then}
use Rattle.jh_timeline_pages.proofs.ListLemmas.{flat_map_at}
use Rattle.jh_plot_pages.specs.Axes.{tick_text}
use Rattle.jh_plot_pages.proofs.axes.write_ticks.Goals as goal

pub loop-tick-preserved : goal.loop-tick-preserved
loop-tick-preserved g c =
    let contents = g.W.Write.contents in
    let start = contents c.args.writer.now in
    let ticks = c.args.ticks.now in
    let more = appends_then start (contents c.loop-tick.writer) (contents c.write_tick.new.writer) _ _ c.loop-tick.invariant c.in_ok-write_tick.ensures.bytes in
    subst (λ w. Appends start (contents c.write_tick.new.writer) w)
    (flat_map_at (tick_text c.args.axis) ticks c.loop-tick.tick-index _ c.loop-tick-test.true) more
