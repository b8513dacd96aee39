use Rattle.std.proofs.Common.{sym, ◌∙◌}
use Rattle.jh_ops.specs.Operation.{operation, operations}
use Rattle.jh_audit.proofs.AuditLemmas.{op_at, turn_from, turn_gives}
use Rattle.jh_audit.proofs.planned.is_in_turn.Goals as goal

pub returns-else-not-is_answered_step : goal.returns-else-not-is_answered_step
returns-else-not-is_answered_step c =
    let schedule = c.args.schedule.now in
    let journal = c.args.journal.now in
    let history = operations c.args.history.now in
    let place = c.args.place in
    let op = c.index-history-place.result in
    let at = op_at c.args.history.now place op c.requires.place c.index-history-place.is in
    let answered = sym c.is_answered_step.ensures ∙ c.if-not-is_answered_step.false in (
      λ holds. turn_from schedule journal history place c.args.ended c.requires.ended (c.ends_entry.ensures.0 holds),
      λ turn. c.ends_entry.ensures.1 (turn_gives schedule journal history place c.args.ended (operation op) c.requires.ended at answered turn),
    )
