use Rattle.std.proofs.Common.{codes, subst, ap}
use Rattle.std.specs.Io.KnownBytes.{Appends}
use Rattle.std.proofs.lemmas.Result.{on_ok_weaker}
use Rattle.jh_edn.proofs.CitedLemmas.{appends_then}
use Rattle.jh_check.specs.Lines.{reads_value}
use Rattle.jh_check.proofs.LineLemmas.{three_parts}
use Rattle.jh_check.proofs.lines.write_counter.Goals as goal

pub returns-clause-bytes : goal.returns-clause-bytes
returns-clause-bytes g c =
    let contents = g.W.Write.contents in
    let start = contents c.args.writer.now in
    let judged = c.args.judged.now in
    let a = appends_then start (contents c.write_verdict.new.writer) (contents c.write_part.new.writer) _ _ c.in_ok-write_verdict.ensures.bytes c.in_ok-write_part.ensures.bytes in
    let b = appends_then start (contents c.write_part.new.writer) (contents c.write_part-2.new.writer) _ _ a c.in_ok-write_part-2.ensures.bytes in
    let text = three_parts judged.verdict (codes "reads") (codes "errors") _ _ (reads_value judged.reads) (reads_value judged.errors)
    (ap reads_value c.as_slice.ensures) (ap reads_value c.as_slice-2.ensures) in
    on_ok_weaker c.put.result (λ end. subst (Appends start (contents c.put.new.writer)) text (appends_then start (contents c.write_part-2.new.writer) (contents c.put.new.writer) _ _ b end)) c.put.ensures.bytes
