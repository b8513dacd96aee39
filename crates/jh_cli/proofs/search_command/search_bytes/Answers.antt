use Rattle.std.proofs.Common.{◌≤◌, subst, sym, rules}
use Rattle.jh_search.specs.declared.options.Options.{Options}
use Rattle.jh_settings.specs.Limits.{max_budget}
use Rattle.jh_cli.specs.SearchRefusals.{RefusesSearchBytes}
use Rattle.jh_cli.specs.SearchText.{IsAnswerText}
use Rattle.jh_cli.proofs.SearchLemmas.{budget_few, not_one, search_refused}
use Rattle.jh_cli.proofs.search_command.search_bytes.Goals as goal

pub search_or_show-requires-clause-budget : goal.search_or_show-requires-clause-budget
search_or_show-requires-clause-budget g c κs within =
    let settings = c.in_ok-settings.settings in
    subst (λ (options : Options). options.budget ≤ max_budget) (sym c.options_of-options.ensures)
    (budget_few c.args.input.now settings.plan settings.mode settings.budget c.in_ok-settings.ensures)

pub returns-in-Ok : goal.returns-in-Ok
returns-in-Ok g c =
    let settings = c.in_ok-settings.settings in
    let output = c.in-Ok.output in (
      c.args.palette,
      settings.plan,
      settings.mode,
      settings.budget,
      c.requires.palette,
      c.in_ok-settings.ensures,
      c.can_be_written.ensures.0 (search rules),
      subst (λ (options : Options). IsAnswerText c.args.question.show settings.plan options output.status output.text.items) c.options_of-options.ensures c.in-Ok.ensures.written,
    )

pub returns : goal.returns
returns g c =
    let settings = c.in_ok-settings.settings in
    subst (RefusesSearchBytes c.args.question c.args.input.now) (sym c.from.ensures)
    (search_refused c.args.question c.args.input.now settings.plan settings.mode settings.budget c.in-Err.error c.in_ok-settings.ensures
    (c.can_be_written.ensures.0 (search rules)) (λ is. search (rules, not_one, is)))
