use Rattle.std.proofs.Common.{ap, codes, subst, ◌++◌}
use Rattle.std.specs.Io.KnownBytes.{Appends}
use Rattle.std.proofs.lemmas.Result.{on_ok_weaker}
use Rattle.jh_edn.proofs.CitedLemmas.{appends_then}
use Rattle.jh_edn.specs.Parts.{behind_pair_text}
use Rattle.jh_edn.specs.Print.{print}
use Rattle.jh_ops.specs.Operation.{operation}
use Rattle.jh_ops.specs.OperationWritten.{value_written}
use Rattle.jh_check.specs.Lines.{verdict_value}
use Rattle.jh_check.specs.declared.verdict.Verdict.{Verdict}
use Rattle.jh_checkers.specs.Lines.{order_value}
use Rattle.jh_checkers.proofs.lines.write_stuck_opening.Goals as goal

pub returns-clause-bytes : goal.returns-clause-bytes
returns-clause-bytes g c =
    let contents = g.W.Write.contents in
    let start = contents c.args.writer.now in
    let s = appends_then (contents c.write_verdict.new.writer) (contents c.put.new.writer) (contents c.write_operation.new.writer) _ _ c.in_ok-put.ensures.bytes c.in_ok-write_operation.ensures.bytes in
    let a = appends_then start (contents c.write_verdict.new.writer) (contents c.write_operation.new.writer) _ _ c.in_ok-write_verdict.ensures.bytes s in
    let front = (codes "{:valid? " ++ print (verdict_value Verdict.False)) ++ behind_pair_text (codes "stuck") (value_written (operation c.args.explanation.now.completion)) in
    let order = ap (λ numbers. front ++ behind_pair_text (codes "order") (order_value numbers)) c.as_slice.ensures in
    on_ok_weaker c.write_part.result (λ end. subst (Appends start (contents c.write_part.new.writer)) order (appends_then start (contents c.write_operation.new.writer) (contents c.write_part.new.writer) _ _ a end)) c.write_part.ensures.bytes
