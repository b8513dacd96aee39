use Rattle.std.proofs.Common.{subst}
use Rattle.std.proofs.lemmas.Result.{on_ok_weaker}
use Rattle.std.specs.Io.KnownBytes.{Appends}
use Rattle.jh_edn.proofs.CitedLemmas.{appends_then}
use Rattle.jh_timeline_pages.specs.Bands.{bands_text}
use Rattle.jh_timeline_pages.specs.Times.{times_text}
use Rattle.jh_timeline_pages.proofs.picture.write_framed.Goals as goal

pub returns : goal.returns
returns g c =
    let contents = g.W.Write.contents in
    let start = contents c.args.writer.now in
    let bands = subst (λ w. Appends (contents c.write_picture_head.new.writer) (contents c.draw_bands.new.writer) (bands_text c.args.frame w)) c.as_slice.ensures.value c.in_ok-draw_bands.ensures in
    let times = subst (λ w. Appends (contents c.draw_bands.new.writer) (contents c.draw_times.new.writer) (times_text c.args.frame w)) c.as_slice-2.ensures.value c.in_ok-draw_times.ensures in
    let one = appends_then start (contents c.write_picture_head.new.writer) (contents c.draw_bands.new.writer) _ _ c.in_ok-write_picture_head.ensures bands in
    let two = appends_then start (contents c.draw_bands.new.writer) (contents c.draw_times.new.writer) _ _ one times in
    let three = appends_then start (contents c.draw_times.new.writer) (contents c.draw_lines.new.writer) _ _ two c.in_ok-draw_lines.ensures in
    let four = appends_then start (contents c.draw_lines.new.writer) (contents c.draw_tails.new.writer) _ _ three c.in_ok-draw_tails.ensures in
    let five = appends_then start (contents c.draw_tails.new.writer) (contents c.draw_bars.new.writer) _ _ four c.in_ok-draw_bars.ensures in
    let six = appends_then start (contents c.draw_bars.new.writer) (contents c.put.new.writer) _ _ five c.in_ok-put.ensures.bytes in
    let seven = appends_then start (contents c.put.new.writer) (contents c.draw_marks.new.writer) _ _ six c.in_ok-draw_marks.ensures in
    on_ok_weaker c.put-2.result (λ end. appends_then start (contents c.draw_marks.new.writer) (contents c.put-2.new.writer) _ _ seven end) c.put-2.ensures.bytes
