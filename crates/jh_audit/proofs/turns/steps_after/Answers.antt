use Rattle.std.proofs.Common.{◌+◌, ap, sym, ◌∙◌}
use Rattle.jh_simnode.specs.Counts.{is_step}
use Rattle.jh_audit.proofs.TurnLemmas.{event_at, more_yes, more_no}
use Rattle.jh_audit.proofs.turns.steps_after.Goals as goal

pub returns-then-is_step-clause-steps : goal.returns-then-is_step-clause-steps
returns-then-is_step-clause-steps c =
    let journal = c.args.journal.now in
    let event = c.index-journal-number.result in
    let at = event_at journal c.args.number event c.requires.number c.index-journal-number.is in
    ap (λ n. n + 1) c.requires.steps ∙ sym (more_yes is_step journal c.args.number event at (sym c.is_step.ensures ∙ c.if-is_step.true))

pub returns-else-is_step-clause-steps : goal.returns-else-is_step-clause-steps
returns-else-is_step-clause-steps c =
    let journal = c.args.journal.now in
    let event = c.index-journal-number.result in
    let at = event_at journal c.args.number event c.requires.number c.index-journal-number.is in
    c.requires.steps ∙ sym (more_no is_step journal c.args.number event at (sym c.is_step.ensures ∙ c.if-is_step.false))
