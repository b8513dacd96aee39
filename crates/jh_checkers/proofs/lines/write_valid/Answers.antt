use Rattle.std.proofs.Common.{codes, subst, ap}
use Rattle.std.specs.Io.KnownBytes.{Appends}
use Rattle.std.proofs.lemmas.Result.{on_ok_weaker}
use Rattle.jh_edn.proofs.CitedLemmas.{appends_then}
use Rattle.jh_check.proofs.LineLemmas.{one_part}
use Rattle.jh_check.specs.declared.verdict.Verdict.{Verdict}
use Rattle.jh_checkers.specs.Lines.{order_value}
use Rattle.jh_checkers.proofs.lines.write_valid.Goals as goal

pub returns-clause-bytes : goal.returns-clause-bytes
returns-clause-bytes g c =
    let contents = g.W.Write.contents in
    let start = contents c.args.writer.now in
    let a = appends_then start (contents c.write_verdict.new.writer) (contents c.write_part.new.writer) _ _ c.in_ok-write_verdict.ensures.bytes c.in_ok-write_part.ensures.bytes in
    let text = one_part Verdict.True (codes "order") _ (order_value c.args.order.now) (ap order_value c.as_slice.ensures) in
    on_ok_weaker c.put.result (λ end. subst (Appends start (contents c.put.new.writer)) text (appends_then start (contents c.write_part.new.writer) (contents c.put.new.writer) _ _ a end)) c.put.ensures.bytes
