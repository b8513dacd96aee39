use Rattle.std.proofs.Common.{codes, refl, subst}
use Rattle.std.specs.Io.KnownBytes.{Appends}
use Rattle.std.proofs.lemmas.Result.{on_ok_weaker}
use Rattle.jh_edn.proofs.CitedLemmas.{appends_then}
use Rattle.jh_edn.specs.Edn.{keyword}
use Rattle.jh_check.specs.Lines.{operations_value}
use Rattle.jh_check.proofs.LineLemmas.{four_parts}
use Rattle.jh_fifo_check.specs.FifoLines.{numbers_value}
use Rattle.jh_fifo_check.proofs.lines.write_explained.Goals as goal

pub returns-clause-bytes : goal.returns-clause-bytes
returns-clause-bytes g c =
    let contents = g.W.Write.contents in
    let start = contents c.args.writer.now in
    let because = keyword c.args.because.now in
    let named = numbers_value c.args.named.now in
    let shown = operations_value c.args.operations.now in
    let a = appends_then start (contents c.write_named.new.writer) (contents c.write_part.new.writer) _ _ c.in_ok-write_named.ensures.bytes c.in_ok-write_part.ensures.bytes in
    let text = four_parts c.args.verdict (codes "because") (codes "named") (codes "operations") because named shown because named shown refl refl refl in
    on_ok_weaker c.put.result (λ end. subst (Appends start (contents c.put.new.writer)) text (appends_then start (contents c.write_part.new.writer) (contents c.put.new.writer) _ _ a end)) c.put.ensures.bytes
