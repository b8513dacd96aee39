use Rattle.std.proofs.Common.{◌≡◌, ◌∙◌, ap, ap₂, inl, inr, refl, sym, subst, Option, List, ℕ}
use Rattle.std.proofs.KnownBytes.{Appends-trans}
use Rattle.jh_lines.specs.Events.{told_in}
use Rattle.jh_drive.specs.Drive as rule
use Rattle.jh_drive.proofs.conducting.hold.Goals as goal

pub returns-in-Ok : goal.returns-in-Ok
returns-in-Ok g c = λ t begun.
    let talk = c.converse_over-ending.ensures.talk in
    inl (record {
      past = talk.0;
      ending = c.converse_over-ending.result;
      last = c.converse_over-ending.new.machine;
      conducted = record { first = c.args.conversation.now; begun = begun; talk = talk.3 };
      heard = talk.1;
      status = c.in-Ok.status;
      report = c.in-Ok.ensures.0;
      is_report = c.in-Ok.ensures.1;
      written = Appends-trans _ _ _ (told_in talk.0) c.in-Ok.ensures.0 talk.2 c.in-Ok.ensures.2;
      answer = c.drive_answer.ensures ∙ ap₂ (λ bad over. rule.drive_answer bad over c.converse_over-ending.result c.in-Ok.status) c.bad-bad.ensures c.is_over-is_over.ensures;
    })
