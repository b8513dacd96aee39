use Rattle.std.proofs.Common.{subst}
use Rattle.std.proofs.lemmas.Result.{on_ok_weaker}
use Rattle.std.specs.Io.KnownBytes.{Appends}
use Rattle.std.specs.Prelude.{OnOk}
use Rattle.jh_edn.proofs.CitedLemmas.{appends_then}
use Rattle.jh_plot_pages.specs.Axes.{axis_text}
use Rattle.jh_plot_pages.specs.declared.axes.Axis.{Axis}
use Rattle.jh_plot_pages.proofs.picture.write_latency_back.Goals as goal

pub returns : goal.returns
returns g c =
    let contents = g.W.Write.contents in
    let start = contents c.args.writer.now in
    let axis = subst (λ w. OnOk c.write_axis.result (Appends (contents c.write_back.new.writer) (contents c.write_axis.new.writer) (axis_text w Axis.Latencies))) c.as_slice.ensures.value c.write_axis.ensures.bytes in
    on_ok_weaker c.write_axis.result (λ end. appends_then start (contents c.write_back.new.writer) (contents c.write_axis.new.writer) _ _ c.in_ok-write_back.ensures end) axis
