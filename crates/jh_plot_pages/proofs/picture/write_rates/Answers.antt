use Rattle.std.proofs.Common.{subst}
use Rattle.std.proofs.lemmas.Result.{on_ok_weaker}
use Rattle.std.specs.Io.KnownBytes.{Appends}
use Rattle.jh_edn.proofs.CitedLemmas.{appends_then}
use Rattle.jh_ops.specs.declared.operation.Kind.{Kind}
use Rattle.jh_plot_pages.specs.Lines.{rate_line_text}
use Rattle.jh_plot_pages.proofs.picture.write_rates.Goals as goal

pub returns : goal.returns
returns g c =
    let contents = g.W.Write.contents in
    let start = contents c.args.writer.now in
    let ok = subst (λ w. Appends (contents c.put.new.writer) (contents c.write_rate_line.new.writer) (rate_line_text w Kind.Ok)) c.as_slice-rows.ensures.value c.in_ok-write_rate_line.ensures.bytes in
    let fail = subst (λ w. Appends (contents c.write_rate_line.new.writer) (contents c.write_rate_line-2.new.writer) (rate_line_text w Kind.Fail)) c.as_slice-rows.ensures.value c.in_ok-write_rate_line-2.ensures.bytes in
    let info = subst (λ w. Appends (contents c.write_rate_line-2.new.writer) (contents c.write_rate_line-3.new.writer) (rate_line_text w Kind.Info)) c.as_slice-rows.ensures.value c.in_ok-write_rate_line-3.ensures.bytes in
    let one = appends_then start (contents c.write_rate_back.new.writer) (contents c.put.new.writer) _ _ c.in_ok-write_rate_back.ensures c.in_ok-put.ensures.bytes in
    let two = appends_then start (contents c.put.new.writer) (contents c.write_rate_line.new.writer) _ _ one ok in
    let three = appends_then start (contents c.write_rate_line.new.writer) (contents c.write_rate_line-2.new.writer) _ _ two fail in
    let four = appends_then start (contents c.write_rate_line-2.new.writer) (contents c.write_rate_line-3.new.writer) _ _ three info in
    on_ok_weaker c.put-2.result (λ end. appends_then start (contents c.write_rate_line-3.new.writer) (contents c.put-2.new.writer) _ _ four end) c.put-2.ensures.bytes
