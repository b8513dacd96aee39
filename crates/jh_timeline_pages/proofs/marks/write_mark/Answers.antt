use Rattle.std.proofs.Common.{◌∙◌, ap, subst}
use Rattle.std.proofs.lemmas.Result.{on_ok_weaker}
use Rattle.std.specs.Io.KnownBytes.{Appends}
use Rattle.jh_edn.proofs.CitedLemmas.{appends_then}
use Rattle.jh_timeline_pages.specs.Drawings.{whereabouts_text}
use Rattle.jh_timeline_pages.proofs.marks.write_mark.Goals as goal

pub returns : goal.returns
returns g c =
    let contents = g.W.Write.contents in
    let start = contents c.args.writer.now in
    let class = subst (λ w. Appends (contents c.put.new.writer) (contents c.put-2.new.writer) w) (c.as_bytes.ensures.value ∙ c.class_of.ensures) c.in_ok-put-2.ensures.bytes in
    let one = appends_then start (contents c.put.new.writer) (contents c.put-2.new.writer) _ _ c.in_ok-put.ensures.bytes class in
    let two = appends_then start (contents c.put-2.new.writer) (contents c.write_named.new.writer) _ _ one c.in_ok-write_named.ensures in
    let three = appends_then start (contents c.write_named.new.writer) (contents c.write_bar_place.new.writer) _ _ two c.in_ok-write_bar_place.ensures in
    let four = appends_then start (contents c.write_bar_place.new.writer) (contents c.put-3.new.writer) _ _ three c.in_ok-put-3.ensures.bytes in
    let five = appends_then start (contents c.put-3.new.writer) (contents c.write_meaning.new.writer) _ _ four c.in_ok-write_meaning.ensures.bytes in
    let whereabouts =
    subst (λ number. Appends (contents c.write_meaning.new.writer) (contents c.write_whereabouts.new.writer) (whereabouts_text c.args.section.now number c.args.bar.now.call))
    c.number_of_bar.ensures c.in_ok-write_whereabouts.ensures in
    let whole = appends_then start (contents c.write_meaning.new.writer) (contents c.write_whereabouts.new.writer) _ _ five whereabouts in
    let six = appends_then start (contents c.write_whereabouts.new.writer) (contents c.put-4.new.writer) _ _ whole c.in_ok-put-4.ensures.bytes in
    let seven = appends_then start (contents c.put-4.new.writer) (contents c.write_note.new.writer) _ _ six c.in_ok-write_note.ensures.bytes in
    on_ok_weaker c.put-5.result (λ end. appends_then start (contents c.write_note.new.writer) (contents c.put-5.new.writer) _ _ seven end) c.put-5.ensures.bytes
