use Rattle.std.proofs.Common.{◌∙◌, ◌++◌, [], codes, cond, sym, subst}
use Rattle.std.proofs.lemmas.Int.{to_z-of_z}
use Rattle.std.proofs.lemmas.Result.{on_ok_weaker}
use Rattle.std.specs.Io.KnownBytes.{Appends}
use Rattle.std.specs.Prelude.{OnOk}
use mir.Syntax.{w64}
use Rattle.jh_edn.proofs.CitedLemmas.{appends_then}
use Rattle.jh_timeline_pages.specs.Times.{seconds_text, time_place}
use Rattle.jh_timeline_pages.proofs.times.write_time.Goals as goal

pub returns-in_ok-write_seconds : goal.returns-in_ok-write_seconds
returns-in_ok-write_seconds g c =
    let contents = g.W.Write.contents in
    let start = contents c.args.writer.now in
    let drawn = time_place c.args.frame c.args.index ++ seconds_text c.args.time ++ codes "</text>\n" in
    let seconds = subst (λ time. Appends (contents c.write_time_place.new.writer) (contents c.write_seconds.new.writer) (seconds_text time)) (to_z-of_z w64 c.args.time c.ranges.time) c.in_ok-write_seconds.ensures in
    let one = appends_then start (contents c.write_time_place.new.writer) (contents c.write_seconds.new.writer) _ _ c.in_ok-write_time_place.ensures seconds in
    subst (λ shown. OnOk c.put.result (Appends start (contents c.put.new.writer) (cond shown drawn [])))
    (sym c.if-is_row_drawn.true ∙ c.is_row_drawn.ensures)
    (on_ok_weaker c.put.result (λ end. appends_then start (contents c.write_seconds.new.writer) (contents c.put.new.writer) _ _ one end) c.put.ensures.bytes)
