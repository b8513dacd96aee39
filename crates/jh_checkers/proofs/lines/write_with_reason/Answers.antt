use Rattle.std.proofs.Common.{ap, codes, refl, subst}
use Rattle.std.specs.Io.KnownBytes.{Appends}
use Rattle.std.proofs.lemmas.Result.{on_ok_weaker}
use Rattle.jh_edn.proofs.CitedLemmas.{appends_then}
use Rattle.jh_edn.specs.Edn.{keyword}
use Rattle.jh_ops.specs.Operation.{operation}
use Rattle.jh_ops.specs.OperationWritten.{value_written}
use Rattle.jh_check.proofs.LineLemmas.{six_parts}
use Rattle.jh_check.specs.declared.verdict.Verdict.{Verdict}
use Rattle.jh_checkers.specs.Lines.{held_value, named_by_unique_reason, order_value, unique_reason_name}
use Rattle.jh_checkers.proofs.lines.write_with_reason.Goals as goal

pub returns-clause-bytes : goal.returns-clause-bytes
returns-clause-bytes g c =
    let contents = g.W.Write.contents in
    let start = contents c.args.writer.now in
    let stuck = c.args.stuck.now in
    let explanation = c.args.explanation.now in
    let reason = c.args.reason in
    let held = held_value stuck.value in
    let pending = order_value explanation.pending.items in
    let a = appends_then start (contents c.write_stuck_register_opening.new.writer) (contents c.write_keyword.new.writer) _ _ c.in_ok-write_stuck_register_opening.ensures.bytes c.in_ok-write_keyword.ensures.bytes in
    let b = appends_then start (contents c.write_keyword.new.writer) (contents c.write_named.new.writer) _ _ a c.in_ok-write_named.ensures.bytes in
    let text = six_parts Verdict.False (codes "stuck") (codes "order") (codes "value") (codes "pending") (codes "because") (codes "named")
    (value_written (operation explanation.completion)) (order_value stuck.order) held pending (keyword c.unique_reason_name.result.now) (order_value (named_by_unique_reason reason))
    held pending (keyword (unique_reason_name reason)) refl refl (ap keyword c.unique_reason_name.ensures) in
    on_ok_weaker c.put.result (λ end. subst (Appends start (contents c.put.new.writer)) text (appends_then start (contents c.write_named.new.writer) (contents c.put.new.writer) _ _ b end)) c.put.ensures.bytes
