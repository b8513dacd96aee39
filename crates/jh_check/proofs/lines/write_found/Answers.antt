use Rattle.std.proofs.Common.{codes, subst, ap}
use Rattle.std.specs.Io.KnownBytes.{Appends}
use Rattle.std.proofs.lemmas.Result.{on_ok_weaker}
use Rattle.jh_edn.proofs.CitedLemmas.{appends_then}
use Rattle.jh_edn.specs.Parts.{vector_of}
use Rattle.jh_check.proofs.LineLemmas.{five_parts}
use Rattle.jh_check.proofs.lines.write_found.Goals as goal

pub returns-clause-bytes : goal.returns-clause-bytes
returns-clause-bytes g c =
    let contents = g.W.Write.contents in
    let start = contents c.args.writer.now in
    let found = c.args.found.now in
    let a = appends_then start (contents c.write_verdict.new.writer) (contents c.write_part.new.writer) _ _ c.in_ok-write_verdict.ensures.bytes c.in_ok-write_part.ensures.bytes in
    let b = appends_then start (contents c.write_part.new.writer) (contents c.write_part-2.new.writer) _ _ a c.in_ok-write_part-2.ensures.bytes in
    let d = appends_then start (contents c.write_part-2.new.writer) (contents c.write_part-3.new.writer) _ _ b c.in_ok-write_part-3.ensures.bytes in
    let e = appends_then start (contents c.write_part-3.new.writer) (contents c.write_part-4.new.writer) _ _ d c.in_ok-write_part-4.ensures.bytes in
    let text = five_parts c.args.verdict (codes "ok") (codes "lost") (codes "unexpected") (codes "recovered") _ _ _ _
    (vector_of found.ok) (vector_of found.lost) (vector_of found.unexpected) (vector_of found.recovered)
    (ap vector_of c.as_slice.ensures) (ap vector_of c.as_slice-2.ensures) (ap vector_of c.as_slice-3.ensures) (ap vector_of c.as_slice-4.ensures) in
    on_ok_weaker c.put.result (λ end. subst (Appends start (contents c.put.new.writer)) text (appends_then start (contents c.write_part-4.new.writer) (contents c.put.new.writer) _ _ e end)) c.put.ensures.bytes
