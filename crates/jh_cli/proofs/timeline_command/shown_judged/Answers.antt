use Rattle.std.proofs.Common.{◌∙◌, ap, List, Some}
use Rattle.jh_independent.specs.Lines.{keys_line, verdict_of_all}
use Rattle.jh_independent.specs.declared.serial.KeyFinding.{KeyFinding}
use Rattle.jh_reports.specs.Reports.{verdict_status}
use Rattle.jh_timeline_sections.specs.Titles.{keys_title}
use Rattle.jh_cli.proofs.timeline_command.shown_judged.Goals as goal

pub returns-clause-shows : goal.returns-clause-shows
returns-clause-shows c =
    let findings = c.in_ok-findings.findings.items in
    record {
      findings = Some findings;
      judged = c.in_ok-findings.ensures.found;
      shown = c.in_ok-sections.ensures.sections;
      titled = c.in_ok-title.ensures ∙ ap (λ (findings : List KeyFinding). keys_title (Some findings)) c.deref-2.ensures.value;
      top = c.in_ok-line.ensures ∙ ap keys_line c.deref-3.ensures.value;
      ended = c.status_of.ensures ∙ ap verdict_status (c.in_ok-verdict.ensures ∙ ap verdict_of_all c.deref.ensures.value);
    }
