use Rattle.std.proofs.Common.{subst}
use Rattle.std.proofs.lemmas.Result.{on_ok_weaker}
use Rattle.std.specs.Io.KnownBytes.{Appends}
use Rattle.jh_edn.proofs.CitedLemmas.{appends_then}
use Rattle.jh_plot_pages.specs.Lines.{quantile_text}
use Rattle.jh_plot_pages.specs.declared.lines.Quantile.{Quantile}
use Rattle.jh_plot_pages.proofs.picture.write_percentiles.Goals as goal

pub returns : goal.returns
returns g c =
    let contents = g.W.Write.contents in
    let start = contents c.args.writer.now in
    let p50 = subst (λ w. Appends (contents c.put.new.writer) (contents c.write_quantile.new.writer) (quantile_text w Quantile.P50)) c.as_slice-rows.ensures.value c.in_ok-write_quantile.ensures.bytes in
    let p95 = subst (λ w. Appends (contents c.write_quantile.new.writer) (contents c.write_quantile-2.new.writer) (quantile_text w Quantile.P95)) c.as_slice-rows.ensures.value c.in_ok-write_quantile-2.ensures.bytes in
    let p99 = subst (λ w. Appends (contents c.write_quantile-2.new.writer) (contents c.write_quantile-3.new.writer) (quantile_text w Quantile.P99)) c.as_slice-rows.ensures.value c.in_ok-write_quantile-3.ensures.bytes in
    let greatest = subst (λ w. Appends (contents c.write_quantile-3.new.writer) (contents c.write_quantile-4.new.writer) (quantile_text w Quantile.Greatest)) c.as_slice-rows.ensures.value c.in_ok-write_quantile-4.ensures.bytes in
    let one = appends_then start (contents c.write_latency_back.new.writer) (contents c.put.new.writer) _ _ c.in_ok-write_latency_back.ensures c.in_ok-put.ensures.bytes in
    let two = appends_then start (contents c.put.new.writer) (contents c.write_quantile.new.writer) _ _ one p50 in
    let three = appends_then start (contents c.write_quantile.new.writer) (contents c.write_quantile-2.new.writer) _ _ two p95 in
    let four = appends_then start (contents c.write_quantile-2.new.writer) (contents c.write_quantile-3.new.writer) _ _ three p99 in
    let five = appends_then start (contents c.write_quantile-3.new.writer) (contents c.write_quantile-4.new.writer) _ _ four greatest in
    on_ok_weaker c.put-2.result (λ end. appends_then start (contents c.write_quantile-4.new.writer) (contents c.put-2.new.writer) _ _ five end) c.put-2.ensures.bytes
