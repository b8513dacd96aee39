use Rattle.std.proofs.Common.{◌∙◌, [], append-nil, ap₂, sym, subst}
use Rattle.std.specs.Io.KnownBytes.{Appends}
use Rattle.std.proofs.KnownBytes.{Appends-trans}
use Rattle.jh_drive.specs.Drive.{drive_answer}
use Rattle.jh_lines.specs.Events.{told_in}
use Rattle.jh_trials.proofs.HeldLemmas.{fails_broken, not_reported, reported}
use Rattle.jh_trials.proofs.holding.hold_trial.Goals.{then-has_begun+in_ok-report_test, else-has_begun}
use Rattle.jh_trials.proofs.holding.hold_trial.Goals as goal

pub returns-in-Err : goal.returns-in-Err
returns-in-Err g c =
    let talk = c.converse_by_lines-ending.ensures in
    let ending = c.converse_by_lines-ending.result in
    let last = c.converse_by_lines-ending.new.machine in
    let answer = sym (ap₂ (λ bad over. drive_answer bad over ending 0) c.bad.ensures c.is_over.ensures) ∙ sym c.drive_answer.ensures ∙ c.in-Err.is in
    elim c.if-has_begun.branch [
      | then-has_begun+in_ok-report_test w ↦
          let report = w.in_ok-report_test.ensures in
          let is_report = rw w.conversation.ensures at report.1 in
          rw w.writer-is (fails_broken c.args.judging c.args.trial.now last _ _ _ _ c.in-Err.error (record {
            past = talk.0;
            ending = ending;
            talked = record { talk = talk.3; by_lines = talk.4 };
            heard = talk.1;
            report = report.0;
            is_report = reported c.args.judging last _ w.in_ok-report_test.field-0 report.0 (sym w.if-has_begun.ensures) is_report;
            written = Appends-trans _ _ _ (told_in talk.0) report.0 talk.2 report.2;
            answer = answer;
          }))
      | else-has_begun w ↦
          rw w.writer-is (fails_broken c.args.judging c.args.trial.now last _ _ _ _ c.in-Err.error (record {
            past = talk.0;
            ending = ending;
            talked = record { talk = talk.3; by_lines = talk.4 };
            heard = talk.1;
            report = [];
            is_report = not_reported c.args.judging last _ (sym w.if-has_begun.ensures);
            written = subst (Appends _ _) (sym (append-nil (told_in talk.0))) talk.2;
            answer = answer;
          }))
    ]
