use Rattle.std.proofs.Common.{◌≡◌, codes, map, refl, subst, ap, ◌∙◌}
use Rattle.std.specs.Prelude.{pos}
use Rattle.std.specs.Io.KnownBytes.{Appends}
use Rattle.std.proofs.lemmas.Result.{on_ok_weaker}
use Rattle.jh_edn.proofs.CitedLemmas.{appends_then}
use Rattle.jh_edn.specs.Edn.{Edn, int}
use Rattle.jh_check.specs.Tallies.{view_counted}
use Rattle.jh_check.specs.Lines.{counted_value}
use Rattle.jh_edn.specs.Parts.{vector_of}
use Rattle.jh_check.specs.declared.tally.Counted.{Counted}
use Rattle.jh_check.proofs.LineLemmas.{four_parts, mapped_twice}
use Rattle.jh_check.proofs.lines.write_ids.Goals as goal

pub returns-clause-bytes : goal.returns-clause-bytes
returns-clause-bytes g c =
    let contents = g.W.Write.contents in
    let start = contents c.args.writer.now in
    let judged = c.args.judged.now in
    let a = appends_then start (contents c.write_verdict.new.writer) (contents c.write_count.new.writer) _ _ c.in_ok-write_verdict.ensures.bytes c.in_ok-write_count.ensures.bytes in
    let b = appends_then start (contents c.write_count.new.writer) (contents c.write_count-2.new.writer) _ _ a c.in_ok-write_count-2.ensures.bytes in
    let d = appends_then start (contents c.write_count-2.new.writer) (contents c.write_part.new.writer) _ _ b c.in_ok-write_part.ensures.bytes in
    let value : Counted → Edn = λ c. counted_value (view_counted c) in
    let pairs : map value c.as_slice.result.now ≡ map counted_value judged.duplicated = mapped_twice counted_value view_counted c.as_slice.result.now ∙ ap (map counted_value) c.as_slice.ensures in
    let text = four_parts judged.verdict (codes "attempted") (codes "acknowledged") (codes "duplicated")
    (int (pos judged.attempted)) (int (pos judged.acknowledged)) _ (int (pos judged.attempted)) (int (pos judged.acknowledged)) (vector_of (map counted_value judged.duplicated))
    refl refl (ap vector_of pairs) in
    on_ok_weaker c.put.result (λ end. subst (Appends start (contents c.put.new.writer)) text (appends_then start (contents c.write_part.new.writer) (contents c.put.new.writer) _ _ d end)) c.put.ensures.bytes
