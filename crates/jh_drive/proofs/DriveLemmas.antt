-- The report of a test is what its parts are.
use Rattle.std.proofs.Common.{◌≡◌, ℕ, List, ◌++◌, refl, ap, ◌∙◌}
use Rattle.std.specs.Prelude.{is_some}
use Rattle.std.proofs.lemmas.List.{append_assoc}
use Rattle.jh_checkers.specs.declared.finding.Judging.{Judging}
use Rattle.jh_conversation.specs.Conversations.{ConversationValue}
use Rattle.jh_ops.specs.HistoryWritten.{history_lines}
use Rattle.jh_conversation.specs.Text.{recorded_history, recorded_lines}
use Rattle.jh_reports.specs.Judged.{IsTextBy}
use Rattle.jh_reports.specs.Lines.{active_line, environment_line}
use Rattle.jh_drive.specs.Drive.{IsReportOf, end_if_missing}
use Rattle.jh_drive.specs.DriveInside.{IsFirstPart}

assoc_four : (e h a v l : List ℕ) → (((e ++ h) ++ a) ++ v) ++ l ≡ e ++ (h ++ (a ++ (v ++ l)))
assoc_four e h a v l = append_assoc ((e ++ h) ++ a) v l ∙ (append_assoc (e ++ h) a (v ++ l) ∙ append_assoc e h (a ++ (v ++ l)))

pub report_is : (judging : Judging) (c : ConversationValue) (status : ℕ) (first last : List ℕ) → IsFirstPart c first
    → IsTextBy (is_some c.test.keys) judging (recorded_history c.test c.machine) status last → IsReportOf judging c status (first ++ last)
report_is judging c status first last (env, of, is) judged =
    let active = active_line c.machine.nemesis.active in
    record {
      last_line = last;
      judged = judged;
      text = history_lines (recorded_history c.test c.machine) ++ (active ++ (environment_line env ++ last));
      is_report = (env, of, refl);
      written = ap (λ l. l ++ last) is ∙ assoc_four (end_if_missing c) (recorded_lines c.test c.machine) active (environment_line env) last;
    }
