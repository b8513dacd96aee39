use Rattle.std.proofs.Common.{subst}
use Rattle.std.specs.Io.KnownBytes.{Appends}
use Rattle.std.specs.List.{flat_map}
use Rattle.jh_edn.proofs.CitedLemmas.{appends_then}
use Rattle.jh_timeline_pages.proofs.ListLemmas.{numbered_all, numbered_next}
use Rattle.jh_timeline_pages.specs.Times.{row_time_text}
use Rattle.jh_timeline_pages.proofs.times.draw_times.Goals as goal

pub loop-index-preserved : goal.loop-index-preserved
loop-index-preserved g c =
    let contents = g.W.Write.contents in
    let start = contents c.args.writer.now in
    let more = appends_then start (contents c.loop-index.writer) (contents c.draw_time.new.writer) _ _ c.loop-index.invariant c.in_ok-draw_time.ensures in
    subst (λ w. Appends start (contents c.draw_time.new.writer) w)
    (numbered_next (λ numbered. row_time_text c.args.frame numbered.0 numbered.1.time) c.args.history.now c.loop-index.index c.index-history-index.result c.loop-index-test.true c.index-history-index.is) more

pub returns : goal.returns
returns g c =
    let contents = g.W.Write.contents in
    subst (λ all. Appends (contents c.args.writer.now) (contents c.loop-index.writer) (flat_map (λ numbered. row_time_text c.args.frame numbered.0 numbered.1.time) all))
    (numbered_all c.args.history.now c.loop-index.index c.loop-index-test.false) c.loop-index.invariant
