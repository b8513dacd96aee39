use Rattle.std.proofs.Common.{◌∙◌, ap, subst}
use Rattle.std.proofs.lemmas.Result.{on_ok_weaker}
use Rattle.std.specs.Io.KnownBytes.{Appends}
use Rattle.std.specs.Prelude.{OnOk, option_map}
use Rattle.jh_edn.proofs.CitedLemmas.{appends_then}
use Rattle.jh_ops.specs.Operation.{operation}
use Rattle.jh_timeline_pages.specs.Drawings.{box_text, ending_class, ending_of, ending_sign, named_label, signed_text}
use Rattle.jh_timeline_pages.proofs.bars.write_operation.Goals as goal

pub returns : goal.returns
returns g c =
    let contents = g.W.Write.contents in
    let start = contents c.args.writer.now in
    let ending = c.ending_of-ending.ensures in
    let box =
    subst (λ class. Appends start (contents c.write_box.new.writer) (box_text class c.args.frame c.args.bar.now))
    (c.ending_class.ensures ∙ ap ending_class ending) c.in_ok-write_box.ensures in
    let completion = option_map (λ op. operation op.now) c.args.completion in
    let same =
    ap (λ sign. signed_text sign c.deref.result.now) (c.ending_sign.ensures ∙ ap ending_sign ending)
    ∙ ap (λ label. signed_text (ending_sign (ending_of completion)) label) (c.deref.ensures.value ∙ c.in_ok-label.ensures ∙ ap (named_label c.args.named) c.in_ok-bar_label.ensures) in
    let one = appends_then start (contents c.write_box.new.writer) (contents c.put.new.writer) _ _ box c.in_ok-put.ensures.bytes in
    let two = appends_then start (contents c.put.new.writer) (contents c.write_records.new.writer) _ _ one c.in_ok-write_records.ensures in
    let signed = subst (λ w. OnOk c.write_signed.result (Appends (contents c.write_records.new.writer) (contents c.write_signed.new.writer) w)) same c.write_signed.ensures in
    on_ok_weaker c.write_signed.result (λ end. appends_then start (contents c.write_records.new.writer) (contents c.write_signed.new.writer) _ _ two end) signed
