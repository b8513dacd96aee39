use Rattle.std.proofs.Common.{◌∙◌, ◌++◌, [], codes, cond, sym, subst}
use Rattle.std.proofs.lemmas.Result.{on_ok_weaker}
use Rattle.std.specs.Io.KnownBytes.{Appends}
use Rattle.std.specs.Prelude.{OnOk}
use Rattle.jh_edn.proofs.CitedLemmas.{appends_then}
use Rattle.jh_timeline_pages.specs.Drawings.{mark_name}
use Rattle.jh_timeline_pages.proofs.marks.write_named.Goals as goal

pub returns-in_ok-put : goal.returns-in_ok-put
returns-in_ok-put g c =
    let contents = g.W.Write.contents in
    let start = contents c.args.writer.now in
    let given = codes "\" id=\"" ++ mark_name c.args.number c.args.mark.now.call in
    subst (λ points. OnOk c.write_mark_name.result (Appends start (contents c.write_mark_name.new.writer) (cond points given [])))
    (sym c.if-is_pointer.true ∙ c.is_pointer.ensures)
    (on_ok_weaker c.write_mark_name.result (λ end. appends_then start (contents c.put.new.writer) (contents c.write_mark_name.new.writer) _ _ c.in_ok-put.ensures.bytes end) c.write_mark_name.ensures)
