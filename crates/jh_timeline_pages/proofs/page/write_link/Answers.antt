use Rattle.std.proofs.Common.{subst}
use Rattle.std.proofs.lemmas.Result.{on_ok_weaker}
use Rattle.std.specs.Io.KnownBytes.{Appends}
use Rattle.jh_edn.proofs.CitedLemmas.{appends_then}
use Rattle.jh_timeline_pages.specs.Markup.{escaped_bytes}
use Rattle.jh_timeline_pages.proofs.page.write_link.Goals as goal

pub returns : goal.returns
returns g c =
    let contents = g.W.Write.contents in
    let start = contents c.args.writer.now in
    let heading = subst (λ w. Appends (contents c.write_name.new.writer) (contents c.write_escaped_bytes.new.writer) (escaped_bytes w)) c.as_slice.ensures.value c.in_ok-write_escaped_bytes.ensures in
    let one = appends_then start (contents c.write_name.new.writer) (contents c.write_escaped_bytes.new.writer) _ _ c.in_ok-write_name.ensures heading in
    on_ok_weaker c.put.result (λ end. appends_then start (contents c.write_escaped_bytes.new.writer) (contents c.put.new.writer) _ _ one end) c.put.ensures.bytes
