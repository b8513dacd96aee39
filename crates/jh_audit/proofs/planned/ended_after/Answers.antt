use Rattle.std.proofs.Common.{◌+◌, ap, sym, ◌∙◌}
use Rattle.jh_ops.specs.Operation.{operation, operations}
use Rattle.jh_audit.proofs.AuditLemmas.{op_at, steps_yes, steps_no}
use Rattle.jh_audit.proofs.planned.ended_after.Goals as goal

pub returns-then-is_answered_step-clause-ended : goal.returns-then-is_answered_step-clause-ended
returns-then-is_answered_step-clause-ended c =
    let history = c.args.history.now in
    let place = c.args.place in
    let op = c.index-history-place.result in
    let at = op_at history place op c.requires.place c.index-history-place.is in
    let answered = sym c.is_answered_step.ensures ∙ c.if-is_answered_step.true in
    ap (λ n. n + 1) c.requires.ended ∙ sym (steps_yes (operations history) place (operation op) at answered)

pub returns-else-is_answered_step-clause-ended : goal.returns-else-is_answered_step-clause-ended
returns-else-is_answered_step-clause-ended c =
    let history = c.args.history.now in
    let place = c.args.place in
    let op = c.index-history-place.result in
    let at = op_at history place op c.requires.place c.index-history-place.is in
    let other = sym c.is_answered_step.ensures ∙ c.if-is_answered_step.false in
    c.requires.ended ∙ sym (steps_no (operations history) place (operation op) at other)
