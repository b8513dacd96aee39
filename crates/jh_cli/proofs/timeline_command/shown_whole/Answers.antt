use Rattle.std.proofs.Common.{Option, subst}
use Rattle.jh_checkers.specs.declared.finding.Finding.{Finding}
use Rattle.jh_edn.specs.View.{views}
use Rattle.jh_ops.specs.Operation.{operations}
use Rattle.jh_cli.specs.TimelineText.{IsFoundBy, ShowsFound}
use Rattle.jh_cli.proofs.timeline_command.shown_whole.Goals as goal

pub returns-clause-shows : goal.returns-clause-shows
returns-clause-shows c =
    let found = c.in_ok-found.found in
    let shown = c.in_ok-shown_found.field-0 in (
      found,
      subst (λ items. IsFoundBy c.args.question.judging (operations items) found) c.deref.ensures.value c.in_ok-found.ensures,
      subst (λ (parsed : Option Finding). ShowsFound parsed c.args.question.choice (views c.args.steps.now) (operations c.args.history.items) shown.status shown.title.items shown.line.items shown.sections.items) c.as_ref.ensures.value c.in_ok-shown_found.ensures.shows,
    )
