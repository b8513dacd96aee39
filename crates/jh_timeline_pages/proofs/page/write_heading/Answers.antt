use Rattle.std.proofs.Common.{◌∙◌, ◌++◌, codes, cond, sym, subst}
use Rattle.std.proofs.lemmas.Result.{on_ok_weaker}
use Rattle.std.specs.Io.KnownBytes.{Appends}
use Rattle.std.specs.Prelude.{OnOk}
use Rattle.jh_edn.proofs.CitedLemmas.{appends_then}
use Rattle.jh_timeline_pages.specs.Markup.{escaped_bytes}
use Rattle.jh_timeline_pages.specs.Page.{anchor_text}
use Rattle.jh_timeline_pages.proofs.page.write_heading.Goals as goal

pub returns : goal.returns
returns g c =
    let contents = g.W.Write.contents in
    let start = contents c.args.writer.now in
    let number = c.args.number in
    let given = anchor_text (codes "<h2 id=\"") number ++ escaped_bytes c.args.heading.now ++ codes "</h2>\n<p>" in
    let one = appends_then start (contents c.write_name-2.new.writer) (contents c.write_escaped_bytes.new.writer) _ _ c.in_ok-write_name.ensures c.in_ok-write_escaped_bytes.ensures in
    subst (λ none. OnOk c.put.result (Appends start (contents c.put.new.writer) (cond none (anchor_text (codes "<p id=\"") number) given)))
    (sym c.if-is_empty.false ∙ c.is_empty.ensures)
    (on_ok_weaker c.put.result (λ end. appends_then start (contents c.write_escaped_bytes.new.writer) (contents c.put.new.writer) _ _ one end) c.put.ensures.bytes)
