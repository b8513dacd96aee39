use Rattle.std.proofs.Common.{◌∙◌, ap, subst}
use Rattle.std.proofs.lemmas.Result.{on_ok_weaker}
use Rattle.std.specs.Io.KnownBytes.{Appends}
use Rattle.std.specs.Prelude.{OnOk}
use Rattle.jh_edn.proofs.CitedLemmas.{appends_then}
use Rattle.jh_timeline_pages.specs.Drawings.{alone_sign, box_text, named_label, signed_text}
use Rattle.jh_timeline_pages.proofs.bars.write_alone.Goals as goal

pub returns : goal.returns
returns g c =
    let contents = g.W.Write.contents in
    let start = contents c.args.writer.now in
    let box =
    subst (λ class. Appends start (contents c.write_box.new.writer) (box_text class c.args.frame c.args.bar.now))
    c.alone_class.ensures c.in_ok-write_box.ensures in
    let same =
    ap (λ sign. signed_text sign c.deref.result.now) c.alone_sign.ensures
    ∙ ap (λ label. signed_text (alone_sign c.args.op.now.kind) label) (c.deref.ensures.value ∙ c.in_ok-label.ensures ∙ ap (named_label c.args.named) c.in_ok-answered_text.ensures) in
    let one = appends_then start (contents c.write_box.new.writer) (contents c.put.new.writer) _ _ box c.in_ok-put.ensures.bytes in
    let two = appends_then start (contents c.put.new.writer) (contents c.write_record.new.writer) _ _ one c.in_ok-write_record.ensures in
    let signed = subst (λ w. OnOk c.write_signed.result (Appends (contents c.write_record.new.writer) (contents c.write_signed.new.writer) w)) same c.write_signed.ensures in
    on_ok_weaker c.write_signed.result (λ end. appends_then start (contents c.write_record.new.writer) (contents c.write_signed.new.writer) _ _ two end) signed
