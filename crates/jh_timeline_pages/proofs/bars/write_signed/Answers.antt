use Rattle.std.proofs.Common.{subst}
use Rattle.std.proofs.lemmas.Result.{on_ok_weaker}
use Rattle.std.specs.Io.KnownBytes.{Appends}
use Rattle.jh_edn.proofs.CitedLemmas.{appends_then}
use Rattle.jh_timeline_pages.proofs.bars.write_signed.Goals as goal

pub returns : goal.returns
returns g c =
    let contents = g.W.Write.contents in
    let start = contents c.args.writer.now in
    let sign = subst (λ w. Appends (contents c.put.new.writer) (contents c.put-2.new.writer) w) c.as_bytes.ensures.value c.in_ok-put-2.ensures.bytes in
    let one = appends_then start (contents c.put.new.writer) (contents c.put-2.new.writer) _ _ c.in_ok-put.ensures.bytes sign in
    let two = appends_then start (contents c.put-2.new.writer) (contents c.write_short_bytes.new.writer) _ _ one c.in_ok-write_short_bytes.ensures in
    on_ok_weaker c.put-3.result (λ end. appends_then start (contents c.write_short_bytes.new.writer) (contents c.put-3.new.writer) _ _ two end) c.put-3.ensures.bytes
