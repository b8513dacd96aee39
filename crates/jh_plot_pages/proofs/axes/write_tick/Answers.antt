use Rattle.std.proofs.lemmas.Result.{on_ok_weaker}
use Rattle.jh_edn.proofs.CitedLemmas.{appends_then}
use Rattle.jh_plot_pages.proofs.axes.write_tick.Goals as goal

pub returns-clause-bytes : goal.returns-clause-bytes
returns-clause-bytes g c =
    let contents = g.W.Write.contents in
    let start = contents c.args.writer.now in
    let one = appends_then start (contents c.write_across.new.writer) (contents c.write_number.new.writer) _ _ c.in_ok-write_across.ensures.bytes c.in_ok-write_number.ensures.bytes in
    on_ok_weaker c.put.result (λ end. appends_then start (contents c.write_number.new.writer) (contents c.put.new.writer) _ _ one end) c.put.ensures.bytes
