use Rattle.std.proofs.Common.{subst}
use Rattle.std.proofs.lemmas.Result.{on_ok_weaker}
use Rattle.std.specs.Io.KnownBytes.{Appends}
use Rattle.jh_edn.proofs.CitedLemmas.{appends_then}
use Rattle.jh_timeline_pages.specs.Markup.{escaped_bytes}
use Rattle.jh_timeline_pages.specs.Page.{folded_text, notice_text}
use Rattle.jh_timeline_pages.proofs.top.write_top.Goals as goal

pub returns : goal.returns
returns g c =
    let contents = g.W.Write.contents in
    let start = contents c.args.writer.now in
    let title = subst (λ w. Appends (contents c.put.new.writer) (contents c.write_escaped_bytes.new.writer) (escaped_bytes w)) c.as_slice.ensures.value c.in_ok-write_escaped_bytes.ensures in
    let notice = subst (λ w. Appends (contents c.put-2.new.writer) (contents c.write_notice.new.writer) (notice_text w)) c.as_slice-2.ensures.value c.in_ok-write_notice.ensures in
    let folded = subst (λ w. Appends (contents c.write_notice.new.writer) (contents c.write_folded.new.writer) (folded_text w)) c.as_slice-3.ensures.value c.in_ok-write_folded.ensures in
    let one = appends_then start (contents c.put.new.writer) (contents c.write_escaped_bytes.new.writer) _ _ c.in_ok-put.ensures.bytes title in
    let two = appends_then start (contents c.write_escaped_bytes.new.writer) (contents c.put-2.new.writer) _ _ one c.in_ok-put-2.ensures.bytes in
    let three = appends_then start (contents c.put-2.new.writer) (contents c.write_notice.new.writer) _ _ two notice in
    let four = appends_then start (contents c.write_notice.new.writer) (contents c.write_folded.new.writer) _ _ three folded in
    on_ok_weaker c.put-3.result (λ end. appends_then start (contents c.write_folded.new.writer) (contents c.put-3.new.writer) _ _ four end) c.put-3.ensures.bytes
