use Rattle.std.proofs.Common.{codes, subst}
use Rattle.std.specs.Prelude.{pos}
use Rattle.std.specs.Io.KnownBytes.{Appends}
use Rattle.std.proofs.lemmas.Result.{on_ok_weaker}
use Rattle.jh_edn.proofs.CitedLemmas.{appends_then}
use Rattle.jh_edn.specs.Edn.{int}
use Rattle.jh_check.specs.Lines.{tally_value}
use Rattle.jh_check.proofs.LineLemmas.{eight_parts}
use Rattle.jh_total_queue.proofs.lines.write_total_queue.Goals as goal

pub returns-clause-bytes : goal.returns-clause-bytes
returns-clause-bytes g c =
    let contents = g.W.Write.contents in
    let start = contents c.args.writer.now in
    let judged = c.args.judged.now in
    let p1 = appends_then start (contents c.write_verdict.new.writer) (contents c.write_count.new.writer) _ _ c.in_ok-write_verdict.ensures.bytes c.in_ok-write_count.ensures.bytes in
    let p2 = appends_then start (contents c.write_count.new.writer) (contents c.write_count-2.new.writer) _ _ p1 c.in_ok-write_count-2.ensures.bytes in
    let p3 = appends_then start (contents c.write_count-2.new.writer) (contents c.write_count-3.new.writer) _ _ p2 c.in_ok-write_count-3.ensures.bytes in
    let p4 = appends_then start (contents c.write_count-3.new.writer) (contents c.write_tally.new.writer) _ _ p3 c.in_ok-write_tally.ensures.bytes in
    let p5 = appends_then start (contents c.write_tally.new.writer) (contents c.write_tally-2.new.writer) _ _ p4 c.in_ok-write_tally-2.ensures.bytes in
    let p6 = appends_then start (contents c.write_tally-2.new.writer) (contents c.write_tally-3.new.writer) _ _ p5 c.in_ok-write_tally-3.ensures.bytes in
    let p7 = appends_then start (contents c.write_tally-3.new.writer) (contents c.write_tally-4.new.writer) _ _ p6 c.in_ok-write_tally-4.ensures.bytes in
    let text = eight_parts judged.verdict (codes "attempted") (codes "acknowledged") (codes "ok") (codes "lost") (codes "unexpected") (codes "duplicated") (codes "recovered")
    (int (pos judged.attempted)) (int (pos judged.acknowledged)) (int (pos judged.ok)) (tally_value judged.lost) (tally_value judged.unexpected) (tally_value judged.duplicated) (tally_value judged.recovered) in
    on_ok_weaker c.put.result (λ end. subst (Appends start (contents c.put.new.writer)) text (appends_then start (contents c.write_tally-4.new.writer) (contents c.put.new.writer) _ _ p7 end)) c.put.ensures.bytes
