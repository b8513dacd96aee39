use Rattle.std.proofs.Common.{◌++◌, is_some, subst, sym}
use Rattle.std.proofs.KnownBytes.{Appends-trans}
use Rattle.jh_conversation.specs.Text.{recorded_history}
use Rattle.jh_drive.specs.Drive.{IsReportOf}
use Rattle.jh_reports.specs.Judged.{IsTextBy}
use Rattle.jh_drive_shrink.specs.ToldInside.{told_heading}
use Rattle.jh_drive_shrink.proofs.ShownLemmas.{match_map}
use Rattle.jh_drive_shrink.proofs.shrinking.write_shown.Goals as goal

pub returns : goal.returns
returns g c = λ judging text.
    let judged = c.args.held.now.judged in
    let its_text = subst (λ v. IsTextBy (is_some v.test.keys) judging (recorded_history v.test v.machine) judged.status judged.text.items) (sym c.conversation.ensures) text in
    let report = c.in_ok-write_test_report.ensures judging its_text in
    let reported = subst (λ v. IsReportOf judging v judged.status report.0) c.conversation.ensures report.1 in
    match_map c.write_part.result _ _ _ c.write_part.ensures (λ _ it. record {
      report = report.0;
      is_report = reported;
      settings = it.0;
      mean_it = it.2;
      written = Appends-trans _ _ _ report.0 (told_heading c.args.told ++ it.0) report.2 it.1;
    })
