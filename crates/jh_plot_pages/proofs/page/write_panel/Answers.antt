use Rattle.std.proofs.Common.{subst}
use Rattle.std.proofs.lemmas.Result.{on_ok_weaker}
use Rattle.std.specs.Io.KnownBytes.{Appends}
use Rattle.jh_edn.proofs.CitedLemmas.{appends_then}
use Rattle.jh_timeline_pages.specs.Markup.{escaped_bytes}
use Rattle.jh_plot_pages.proofs.page.write_panel.Goals as goal

pub returns : goal.returns
returns g c =
    let contents = g.W.Write.contents in
    let start = contents c.args.writer.now in
    let heading = subst (λ w. Appends (contents c.put.new.writer) (contents c.write_escaped_bytes.new.writer) (escaped_bytes w)) c.as_slice.ensures.value c.in_ok-write_escaped_bytes.ensures in
    let one = appends_then start (contents c.put.new.writer) (contents c.write_escaped_bytes.new.writer) _ _ c.in_ok-put.ensures.bytes heading in
    let two = appends_then start (contents c.write_escaped_bytes.new.writer) (contents c.write_calls.new.writer) _ _ one c.in_ok-write_calls.ensures.bytes in
    let three = appends_then start (contents c.write_calls.new.writer) (contents c.write_latencies.new.writer) _ _ two c.in_ok-write_latencies.ensures in
    let four = appends_then start (contents c.write_latencies.new.writer) (contents c.write_percentiles.new.writer) _ _ three c.in_ok-write_percentiles.ensures in
    let five = appends_then start (contents c.write_percentiles.new.writer) (contents c.write_rates.new.writer) _ _ four c.in_ok-write_rates.ensures in
    on_ok_weaker c.put-2.result (λ end. appends_then start (contents c.write_rates.new.writer) (contents c.put-2.new.writer) _ _ five end) c.put-2.ensures.bytes
