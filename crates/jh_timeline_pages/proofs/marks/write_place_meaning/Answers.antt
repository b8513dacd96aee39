use Rattle.std.proofs.Common.{◌∙◌}
use Rattle.std.proofs.lemmas.Result.{on_ok_weaker}
use Rattle.std.specs.Io.KnownBytes.{Appends}
use Rattle.jh_edn.proofs.CitedLemmas.{appends_then}
use Rattle.jh_timeline_pages.proofs.marks.write_place_meaning.Goals as goal

pub returns-clause-bytes : goal.returns-clause-bytes
returns-clause-bytes g c =
    let contents = g.W.Write.contents in
    let start = contents c.args.writer.now in
    on_ok_weaker c.write_held.result (λ end. appends_then start (contents c.write_order_number.new.writer) (contents c.write_held.new.writer) _ _ c.in_ok-write_order_number.ensures.bytes end) c.write_held.ensures.bytes
