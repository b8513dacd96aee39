use Rattle.std.proofs.Common.{codes, refl, subst}
use Rattle.std.specs.Io.KnownBytes.{Appends}
use Rattle.std.proofs.lemmas.Result.{on_ok_weaker}
use Rattle.jh_edn.proofs.CitedLemmas.{appends_then}
use Rattle.jh_check.specs.declared.verdict.Verdict.TheVariants.{True}
use Rattle.jh_check.proofs.LineLemmas.{one_part}
use Rattle.jh_fifo_check.specs.FifoLines.{numbers_value}
use Rattle.jh_fifo_check.proofs.lines.write_order.Goals as goal

pub returns-clause-bytes : goal.returns-clause-bytes
returns-clause-bytes g c =
    let contents = g.W.Write.contents in
    let start = contents c.args.writer.now in
    let a = appends_then start (contents c.write_verdict.new.writer) (contents c.write_part.new.writer) _ _ c.in_ok-write_verdict.ensures.bytes c.in_ok-write_part.ensures.bytes in
    let value = numbers_value c.args.order.now in
    let text = one_part True (codes "order") value value refl in
    on_ok_weaker c.put.result (λ end. subst (Appends start (contents c.put.new.writer)) text (appends_then start (contents c.write_part.new.writer) (contents c.put.new.writer) _ _ a end)) c.put.ensures.bytes
