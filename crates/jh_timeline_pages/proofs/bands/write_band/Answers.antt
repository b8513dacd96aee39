use Rattle.std.proofs.Common.{◌≡◌, ◌∙◌, ap, subst}
use Rattle.std.proofs.lemmas.Result.{on_ok_weaker}
use Rattle.std.specs.Io.KnownBytes.{Appends}
use Rattle.jh_edn.proofs.CitedLemmas.{appends_then}
use Rattle.jh_timeline_pages.specs.Bands.{band_from, band_head}
use Rattle.jh_timeline_pages.specs.Markup.{escaped_bytes}
use Rattle.jh_timeline_pages.specs.Pixels.{top_of}
use Rattle.jh_timeline_pages.proofs.bands.write_band.Goals as goal

pub returns : goal.returns
returns g c =
    let contents = g.W.Write.contents in
    let start = contents c.args.writer.now in
    let frame = c.args.frame in
    let same =
    ap (λ top. band_head top c.band_height.result) (c.top_of-top.ensures ∙ ap (top_of frame) c.band_from.ensures)
    ∙ ap (λ height. band_head (top_of frame (band_from frame c.args.band.now)) height) c.band_height.ensures in
    let head = subst (λ w. Appends start (contents c.write_band_head.new.writer) w) same c.in_ok-write_band_head.ensures in
    let title = subst (λ w. Appends (contents c.write_band_head.new.writer) (contents c.write_escaped_bytes.new.writer) (escaped_bytes w)) c.as_slice.ensures.value c.in_ok-write_escaped_bytes.ensures in
    let label = subst (λ w. Appends (contents c.write_label_place.new.writer) (contents c.write_escaped_bytes-2.new.writer) (escaped_bytes w)) c.as_slice-2.ensures.value c.in_ok-write_escaped_bytes-2.ensures in
    let one = appends_then start (contents c.write_band_head.new.writer) (contents c.write_escaped_bytes.new.writer) _ _ head title in
    let two = appends_then start (contents c.write_escaped_bytes.new.writer) (contents c.write_label_place.new.writer) _ _ one c.in_ok-write_label_place.ensures in
    let three = appends_then start (contents c.write_label_place.new.writer) (contents c.write_escaped_bytes-2.new.writer) _ _ two label in
    on_ok_weaker c.put.result (λ end. appends_then start (contents c.write_escaped_bytes-2.new.writer) (contents c.put.new.writer) _ _ three end) c.put.ensures.bytes
