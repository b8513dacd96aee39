use Rattle.std.proofs.Common.{subst}
use Rattle.std.proofs.lemmas.Result.{on_ok_weaker}
use Rattle.std.specs.Io.KnownBytes.{Appends}
use Rattle.jh_edn.proofs.CitedLemmas.{appends_then}
use Rattle.jh_ops.specs.declared.operation.Kind.{Kind}
use Rattle.jh_plot_pages.specs.Points.{points_text}
use Rattle.jh_plot_pages.proofs.picture.write_latencies.Goals as goal

pub returns : goal.returns
returns g c =
    let contents = g.W.Write.contents in
    let start = contents c.args.writer.now in
    let ok = subst (λ w. Appends (contents c.put.new.writer) (contents c.write_points.new.writer) (points_text w Kind.Ok)) c.as_slice-points.ensures.value c.in_ok-write_points.ensures.bytes in
    let fail = subst (λ w. Appends (contents c.write_points.new.writer) (contents c.write_points-2.new.writer) (points_text w Kind.Fail)) c.as_slice-points.ensures.value c.in_ok-write_points-2.ensures.bytes in
    let info = subst (λ w. Appends (contents c.write_points-2.new.writer) (contents c.write_points-3.new.writer) (points_text w Kind.Info)) c.as_slice-points.ensures.value c.in_ok-write_points-3.ensures.bytes in
    let one = appends_then start (contents c.write_latency_back.new.writer) (contents c.put.new.writer) _ _ c.in_ok-write_latency_back.ensures c.in_ok-put.ensures.bytes in
    let two = appends_then start (contents c.put.new.writer) (contents c.write_points.new.writer) _ _ one ok in
    let three = appends_then start (contents c.write_points.new.writer) (contents c.write_points-2.new.writer) _ _ two fail in
    let four = appends_then start (contents c.write_points-2.new.writer) (contents c.write_points-3.new.writer) _ _ three info in
    on_ok_weaker c.put-2.result (λ end. appends_then start (contents c.write_points-3.new.writer) (contents c.put-2.new.writer) _ _ four end) c.put-2.ensures.bytes
