use Rattle.std.proofs.Common.{subst}
use Rattle.std.specs.Io.KnownBytes.{Appends}
use Rattle.jh_edn.proofs.CitedLemmas.{appends_then}
use Rattle.jh_timeline_pages.proofs.ListLemmas.{flat_map_next}
use Rattle.jh_plot_pages.specs.Axes.{shade_text}
use Rattle.jh_plot_pages.proofs.axes.write_each_shade.Goals as goal

pub loop-shade-preserved : goal.loop-shade-preserved
loop-shade-preserved g c =
    let contents = g.W.Write.contents in
    let start = contents c.args.writer.now in
    let more = appends_then start (contents c.loop-shade.writer) (contents c.write_shade.new.writer) _ _ c.loop-shade.invariant c.in_ok-write_shade.ensures in
    subst (λ w. Appends start (contents c.write_shade.new.writer) w)
    (flat_map_next shade_text c.args.shades.now c.loop-shade.shade-index c.shade-item.result c.loop-shade-test.true c.shade-item.is) more
