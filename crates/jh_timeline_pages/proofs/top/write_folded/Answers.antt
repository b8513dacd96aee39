use Rattle.std.proofs.Common.{◌∙◌, ◌++◌, [], codes, cond, sym, subst}
use Rattle.std.proofs.lemmas.Result.{on_ok_weaker}
use Rattle.std.specs.Io.KnownBytes.{Appends}
use Rattle.std.specs.Prelude.{OnOk}
use Rattle.jh_edn.proofs.CitedLemmas.{appends_then}
use Rattle.jh_timeline_pages.specs.Markup.{escaped_bytes}
use Rattle.jh_timeline_pages.proofs.top.write_folded.Goals as goal

pub returns : goal.returns
returns g c =
    let contents = g.W.Write.contents in
    let start = contents c.args.writer.now in
    let given = codes "<details>\n<summary>The line of the checker</summary>\n<pre>" ++ escaped_bytes c.args.line.now ++ codes "</pre>\n</details>\n" in
    let one = appends_then start (contents c.put.new.writer) (contents c.write_escaped_bytes.new.writer) _ _ c.in_ok-put.ensures.bytes c.in_ok-write_escaped_bytes.ensures in
    subst (λ none. OnOk c.put-2.result (Appends start (contents c.put-2.new.writer) (cond none [] given)))
    (sym c.if-is_empty.false ∙ c.is_empty.ensures)
    (on_ok_weaker c.put-2.result (λ end. appends_then start (contents c.write_escaped_bytes.new.writer) (contents c.put-2.new.writer) _ _ one end) c.put-2.ensures.bytes)
