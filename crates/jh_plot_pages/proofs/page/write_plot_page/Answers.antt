use Rattle.std.proofs.lemmas.Result.{on_ok_weaker}
use Rattle.jh_edn.proofs.CitedLemmas.{appends_then}
use Rattle.jh_plot_pages.specs.Page.{plot_page_text}
use Rattle.jh_plot_pages.proofs.page.write_plot_page.Goals as goal

pub returns : goal.returns
unfolding plot_page_text
returns g c =
    let contents = g.W.Write.contents in
    let start = contents c.args.writer.now in
    let one = appends_then start (contents c.put.new.writer) (contents c.write_panels.new.writer) _ _ c.in_ok-put.ensures.bytes c.in_ok-write_panels.ensures in
    on_ok_weaker c.put-2.result (λ end. appends_then start (contents c.write_panels.new.writer) (contents c.put-2.new.writer) _ _ one end) c.put-2.ensures.bytes
