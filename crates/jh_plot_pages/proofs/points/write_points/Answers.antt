use Rattle.std.proofs.Common.{◌∙◌, subst}
use Rattle.std.proofs.lemmas.Result.{on_ok_weaker}
use Rattle.std.specs.Io.KnownBytes.{Appends}
use Rattle.jh_edn.proofs.CitedLemmas.{appends_then}
use Rattle.jh_plot_pages.proofs.points.write_points.Goals as goal

pub returns-clause-bytes : goal.returns-clause-bytes
returns-clause-bytes g c =
    let contents = g.W.Write.contents in
    let start = contents c.args.writer.now in
    let class = subst (λ w. Appends (contents c.put.new.writer) (contents c.put-2.new.writer) (w)) (c.as_bytes.ensures.value ∙ c.kind_class.ensures) c.in_ok-put-2.ensures.bytes in
    let one = appends_then start (contents c.put.new.writer) (contents c.put-2.new.writer) _ _ c.in_ok-put.ensures.bytes class in
    let two = appends_then start (contents c.put-2.new.writer) (contents c.put-3.new.writer) _ _ one c.in_ok-put-3.ensures.bytes in
    let three = appends_then start (contents c.put-3.new.writer) (contents c.write_each_point.new.writer) _ _ two c.in_ok-write_each_point.ensures.bytes in
    on_ok_weaker c.put-4.result (λ end. appends_then start (contents c.write_each_point.new.writer) (contents c.put-4.new.writer) _ _ three end) c.put-4.ensures.bytes
