use Rattle.jh_audit.proofs.TurnLemmas.{event_at, kept_from, kept_gives}
use Rattle.jh_audit.proofs.turns.is_turn_kept.Goals as goal

pub returns : goal.returns
returns c =
    let plan = c.args.plan.now in
    let journal = c.args.journal.now in
    let event = c.index-journal-number.result in
    let at = event_at journal c.args.number event c.requires.number c.index-journal-number.is in (
      λ holds. kept_from plan journal c.args.number c.args.steps c.args.calls c.args.all event at c.requires.steps c.requires.calls c.requires.all (c.keeps_turn.ensures.0 holds),
      λ kept. c.keeps_turn.ensures.1 (kept_gives plan journal c.args.number c.args.steps c.args.calls c.args.all event at c.requires.steps c.requires.calls c.requires.all kept),
    )
