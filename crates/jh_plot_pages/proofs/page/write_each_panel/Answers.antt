use Rattle.std.proofs.Common.{subst}
use Rattle.std.specs.Io.KnownBytes.{Appends}
use Rattle.jh_edn.proofs.CitedLemmas.{appends_then}
use Rattle.jh_timeline_pages.proofs.ListLemmas.{flat_map_next}
use Rattle.jh_plot_pages.specs.Page.{panel_text}
use Rattle.jh_plot_pages.proofs.page.write_each_panel.Goals as goal

pub loop-panel-preserved : goal.loop-panel-preserved
loop-panel-preserved g c =
    let contents = g.W.Write.contents in
    let start = contents c.args.writer.now in
    let more = appends_then start (contents c.loop-panel.writer) (contents c.write_panel.new.writer) _ _ c.loop-panel.invariant c.in_ok-write_panel.ensures in
    subst (λ w. Appends start (contents c.write_panel.new.writer) w)
    (flat_map_next (panel_text c.args.plot.now) c.deref-panel-items.result.now c.loop-panel.panel-index c.panel-item.result c.loop-panel-test.true c.panel-item.is) more
