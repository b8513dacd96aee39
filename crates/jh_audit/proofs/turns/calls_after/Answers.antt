use Rattle.std.proofs.Common.{◌+◌, ap, sym, ◌∙◌}
use Rattle.jh_simnode.specs.Counts.{is_call}
use Rattle.jh_audit.proofs.TurnLemmas.{event_at, more_yes, more_no}
use Rattle.jh_audit.proofs.turns.calls_after.Goals as goal

pub returns-then-is_call-clause-calls : goal.returns-then-is_call-clause-calls
returns-then-is_call-clause-calls c =
    let journal = c.args.journal.now in
    let event = c.index-journal-number.result in
    let at = event_at journal c.args.number event c.requires.number c.index-journal-number.is in
    ap (λ n. n + 1) c.requires.calls ∙ sym (more_yes is_call journal c.args.number event at (sym c.is_call.ensures ∙ c.if-is_call.true))

pub returns-else-is_call-clause-calls : goal.returns-else-is_call-clause-calls
returns-else-is_call-clause-calls c =
    let journal = c.args.journal.now in
    let event = c.index-journal-number.result in
    let at = event_at journal c.args.number event c.requires.number c.index-journal-number.is in
    c.requires.calls ∙ sym (more_no is_call journal c.args.number event at (sym c.is_call.ensures ∙ c.if-is_call.false))
