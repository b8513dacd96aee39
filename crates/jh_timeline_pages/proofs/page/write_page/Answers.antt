use Rattle.std.proofs.lemmas.Result.{on_ok_weaker}
use Rattle.jh_edn.proofs.CitedLemmas.{appends_then}
use Rattle.jh_timeline_pages.specs.Page.{page_text}
use Rattle.jh_timeline_pages.proofs.page.write_page.Goals as goal

pub returns : goal.returns
unfolding page_text
returns g c =
    let contents = g.W.Write.contents in
    let start = contents c.args.writer.now in
    let one = appends_then start (contents c.write_top.new.writer) (contents c.write_contents.new.writer) _ _ c.in_ok-write_top.ensures c.in_ok-write_contents.ensures in
    let two = appends_then start (contents c.write_contents.new.writer) (contents c.write_sections.new.writer) _ _ one c.in_ok-write_sections.ensures in
    let three = appends_then start (contents c.write_sections.new.writer) (contents c.write_below.new.writer) _ _ two c.in_ok-write_below.ensures in
    on_ok_weaker c.put.result (λ end. appends_then start (contents c.write_below.new.writer) (contents c.put.new.writer) _ _ three end) c.put.ensures.bytes
