use Rattle.std.proofs.Common.{codes, refl, subst}
use Rattle.std.specs.Io.KnownBytes.{Appends}
use Rattle.std.proofs.lemmas.Result.{on_ok_weaker}
use Rattle.jh_edn.proofs.CitedLemmas.{appends_then}
use Rattle.jh_ops.specs.Operation.{operation}
use Rattle.jh_ops.specs.OperationWritten.{value_written}
use Rattle.jh_check.proofs.LineLemmas.{five_parts}
use Rattle.jh_check.specs.declared.verdict.Verdict.{Verdict}
use Rattle.jh_checkers.specs.Lines.{held_value, order_value}
use Rattle.jh_checkers.proofs.lines.write_without_reason.Goals as goal

pub returns-clause-bytes : goal.returns-clause-bytes
returns-clause-bytes g c =
    let contents = g.W.Write.contents in
    let start = contents c.args.writer.now in
    let stuck = c.args.stuck.now in
    let explanation = c.args.explanation.now in
    let completion = value_written (operation explanation.completion) in
    let pending = order_value explanation.pending.items in
    let text = five_parts Verdict.False (codes "stuck") (codes "order") (codes "value") (codes "pending")
    completion (order_value stuck.order) (held_value stuck.value) pending completion (order_value stuck.order) (held_value stuck.value) pending
    refl refl refl refl in
    on_ok_weaker c.put.result (λ end. subst (Appends start (contents c.put.new.writer)) text (appends_then start (contents c.write_stuck_register_opening.new.writer) (contents c.put.new.writer) _ _ c.in_ok-write_stuck_register_opening.ensures.bytes end)) c.put.ensures.bytes
