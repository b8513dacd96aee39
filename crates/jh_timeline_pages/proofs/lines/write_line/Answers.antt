use Rattle.std.proofs.Common.{subst}
use Rattle.std.proofs.lemmas.Result.{on_ok_weaker}
use Rattle.std.specs.Io.KnownBytes.{Appends}
use Rattle.jh_edn.proofs.CitedLemmas.{appends_then}
use Rattle.jh_timeline_pages.specs.Markup.{escaped_bytes}
use Rattle.jh_timeline_pages.proofs.lines.write_line.Goals as goal

pub returns : goal.returns
returns g c =
    let contents = g.W.Write.contents in
    let start = contents c.args.writer.now in
    let label = subst (λ w. Appends (contents c.put.new.writer) (contents c.write_escaped_bytes.new.writer) (escaped_bytes w)) c.as_slice.ensures.value c.in_ok-write_escaped_bytes.ensures in
    let one = appends_then start (contents c.write_line_head.new.writer) (contents c.write_record.new.writer) _ _ c.in_ok-write_line_head.ensures c.in_ok-write_record.ensures in
    let two = appends_then start (contents c.write_record.new.writer) (contents c.put.new.writer) _ _ one c.in_ok-put.ensures.bytes in
    let three = appends_then start (contents c.put.new.writer) (contents c.write_escaped_bytes.new.writer) _ _ two label in
    on_ok_weaker c.put-2.result (λ end. appends_then start (contents c.write_escaped_bytes.new.writer) (contents c.put-2.new.writer) _ _ three end) c.put-2.ensures.bytes
