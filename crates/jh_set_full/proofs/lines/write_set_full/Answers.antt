use Rattle.std.proofs.Common.{◌≡◌, codes, map, subst, ap, ◌∙◌}
use Rattle.std.specs.Prelude.{pos}
use Rattle.std.specs.Io.KnownBytes.{Appends}
use Rattle.std.proofs.lemmas.Result.{on_ok_weaker}
use Rattle.jh_edn.proofs.CitedLemmas.{appends_then}
use Rattle.jh_edn.specs.Edn.{Edn, int}
use Rattle.jh_edn.specs.Parts.{vector_of}
use Rattle.jh_check.specs.Lines.{tally_value}
use Rattle.jh_set_full.specs.Lines.{stale_value}
use Rattle.jh_set_full.specs.StaleView.{view_stale}
use Rattle.jh_set_full.specs.declared.stale.Stale.{Stale}
use Rattle.jh_check.proofs.LineLemmas.{six_parts, mapped_twice}
use Rattle.jh_set_full.proofs.lines.write_set_full.Goals as goal

pub returns-clause-bytes : goal.returns-clause-bytes
returns-clause-bytes g c =
    let contents = g.W.Write.contents in
    let start = contents c.args.writer.now in
    let judged = c.args.judged.now in
    let p1 = appends_then start (contents c.write_verdict.new.writer) (contents c.write_count.new.writer) _ _ c.in_ok-write_verdict.ensures.bytes c.in_ok-write_count.ensures.bytes in
    let p2 = appends_then start (contents c.write_count.new.writer) (contents c.write_count-2.new.writer) _ _ p1 c.in_ok-write_count-2.ensures.bytes in
    let p3 = appends_then start (contents c.write_count-2.new.writer) (contents c.write_part.new.writer) _ _ p2 c.in_ok-write_part.ensures.bytes in
    let p4 = appends_then start (contents c.write_part.new.writer) (contents c.write_part-2.new.writer) _ _ p3 c.in_ok-write_part-2.ensures.bytes in
    let p5 = appends_then start (contents c.write_part-2.new.writer) (contents c.write_part-3.new.writer) _ _ p4 c.in_ok-write_part-3.ensures.bytes in
    let p6 = appends_then start (contents c.write_part-3.new.writer) (contents c.write_tally.new.writer) _ _ p5 c.in_ok-write_tally.ensures.bytes in
    let value : Stale → Edn = λ s. stale_value (view_stale s) in
    let stales : map value c.as_slice-3.result.now ≡ map stale_value judged.stale = mapped_twice stale_value view_stale c.as_slice-3.result.now ∙ ap (map stale_value) c.as_slice-3.ensures in
    let text = six_parts judged.verdict (codes "attempted") (codes "stable") (codes "lost") (codes "never-read") (codes "stale") (codes "duplicated")
    (int (pos judged.attempted)) (int (pos judged.stable)) _ _ _ (tally_value judged.duplicated) (vector_of judged.lost) (vector_of judged.never_read) (vector_of (map stale_value judged.stale))
    (ap vector_of c.as_slice.ensures) (ap vector_of c.as_slice-2.ensures) (ap vector_of stales) in
    on_ok_weaker c.put.result (λ end. subst (Appends start (contents c.put.new.writer)) text (appends_then start (contents c.write_tally.new.writer) (contents c.put.new.writer) _ _ p6 end)) c.put.ensures.bytes
