use Rattle.std.proofs.Common.{◌∙◌, subst}
use Rattle.std.proofs.lemmas.Int.{to_z-of_z}
use Rattle.std.proofs.lemmas.Result.{on_ok_weaker}
use Rattle.std.specs.Fmt.{signed_decimal}
use Rattle.std.specs.Io.KnownBytes.{Appends}
use Rattle.std.specs.Prelude.{OnOk}
use mir.Syntax.{w64}
use Rattle.jh_edn.proofs.CitedLemmas.{appends_then}
use Rattle.jh_timeline_pages.proofs.marks.write_held_value.Goals as goal

pub returns-clause-bytes : goal.returns-clause-bytes
returns-clause-bytes g c =
    let contents = g.W.Write.contents in
    let start = contents c.args.writer.now in
    let value = subst (λ value. OnOk c.write_value.result (Appends (contents c.put.new.writer) (contents c.write_value.new.writer) (signed_decimal value))) (to_z-of_z w64 c.args.value c.ranges.value) c.write_value.ensures.bytes in
    on_ok_weaker c.write_value.result (λ end. appends_then start (contents c.put.new.writer) (contents c.write_value.new.writer) _ _ c.in_ok-put.ensures.bytes end) value
