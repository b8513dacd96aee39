use Rattle.std.proofs.Common.{ap, ap₂, codes, ◌≡◌, ◌∙◌}
use Rattle.clap.specs.Words.{app_of, new_app, with_rule}
use Rattle.clap.specs.Simple.{app_of_fields}
use Rattle.jh_arguments.proofs.line.shrink_command.Goals as goal

pub returns-clause-shrink : goal.returns-clause-shrink
returns-clause-shrink c =
    let top : app_of c.after_help.result ≡ new_app (codes "shrink") = ap app_of_fields c.after_help.ensures
    ∙ (ap app_of_fields c.about.ensures ∙ c.new.ensures.app) in
    c.in_ok-shrink.ensures.shape c.verbose_option.ensures.local ∙ ap₂ with_rule
    (c.in_ok-arg-2.ensures.shape c.tried_test_option.ensures.local ∙ ap₂ with_rule
    (c.in_ok-arg.ensures.shape c.budget_option-budget.ensures.local ∙ ap₂ with_rule top c.budget_option-budget.ensures.rule)
    c.tried_test_option.ensures.rule) c.verbose_option.ensures.rule
