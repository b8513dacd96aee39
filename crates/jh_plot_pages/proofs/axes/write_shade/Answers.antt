use Rattle.std.proofs.Common.{subst}
use Rattle.std.proofs.lemmas.Result.{on_ok_weaker}
use Rattle.std.specs.Io.KnownBytes.{Appends}
use Rattle.jh_edn.proofs.CitedLemmas.{appends_then}
use Rattle.jh_timeline_pages.specs.Markup.{escaped_bytes}
use Rattle.jh_plot_pages.proofs.axes.write_shade.Goals as goal

pub returns : goal.returns
returns g c =
    let contents = g.W.Write.contents in
    let start = contents c.args.writer.now in
    let label = subst (λ w. Appends (contents c.write_area.new.writer) (contents c.write_escaped_bytes.new.writer) (escaped_bytes w)) c.as_slice.ensures.value c.in_ok-write_escaped_bytes.ensures in
    let one = appends_then start (contents c.write_area.new.writer) (contents c.write_escaped_bytes.new.writer) _ _ c.in_ok-write_area.ensures.bytes label in
    on_ok_weaker c.put.result (λ end. appends_then start (contents c.write_escaped_bytes.new.writer) (contents c.put.new.writer) _ _ one end) c.put.ensures.bytes
