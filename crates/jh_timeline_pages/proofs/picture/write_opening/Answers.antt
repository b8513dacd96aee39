use Rattle.std.proofs.lemmas.Result.{on_ok_weaker}
use Rattle.jh_edn.proofs.CitedLemmas.{appends_then}
use Rattle.jh_timeline_pages.proofs.picture.write_opening.Goals as goal

pub returns : goal.returns
returns g c =
    let contents = g.W.Write.contents in
    let start = contents c.args.writer.now in
    let one = appends_then start (contents c.put.new.writer) (contents c.write_sides.new.writer) _ _ c.in_ok-put.ensures.bytes c.in_ok-write_sides.ensures in
    on_ok_weaker c.write_view.result (λ end. appends_then start (contents c.write_sides.new.writer) (contents c.write_view.new.writer) _ _ one end) c.write_view.ensures
