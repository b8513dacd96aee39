use Rattle.std.proofs.Common.{ap, ap₂, codes, ◌≡◌, ◌∙◌}
use Rattle.clap.specs.Words.{app_of, new_app, with_rule}
use Rattle.clap.specs.Simple.{app_of_fields}
use Rattle.jh_arguments.proofs.line.search_command.Goals as goal

pub returns-clause-search : goal.returns-clause-search
returns-clause-search c =
    let top : app_of c.after_help.result ≡ new_app (codes "search") = ap app_of_fields c.after_help.ensures
    ∙ (ap app_of_fields c.about.ensures ∙ c.new.ensures.app) in
    c.in_ok-search.ensures.shape c.verbose_option.ensures.local ∙ ap₂ with_rule
    (c.in_ok-arg-8.ensures.shape c.tried_test_option.ensures.local ∙ ap₂ with_rule
    (c.in_ok-arg-7.ensures.shape c.spread_option.ensures.local ∙ ap₂ with_rule
    (c.in_ok-arg-6.ensures.shape c.show_option.ensures.local ∙ ap₂ with_rule
    (c.in_ok-arg-5.ensures.shape c.given_threads_option.ensures.local ∙ ap₂ with_rule
    (c.in_ok-arg-4.ensures.shape c.from_option.ensures.local ∙ ap₂ with_rule
    (c.in_ok-arg-3.ensures.shape c.palette_option.ensures.local ∙ ap₂ with_rule
    (c.in_ok-arg-2.ensures.shape c.faults_option.ensures.local ∙ ap₂ with_rule
    (c.in_ok-arg.ensures.shape c.runs_option.ensures.local ∙ ap₂ with_rule top c.runs_option.ensures.rule)
    c.faults_option.ensures.rule) c.palette_option.ensures.rule) c.from_option.ensures.rule)
    c.given_threads_option.ensures.rule) c.show_option.ensures.rule) c.spread_option.ensures.rule)
    c.tried_test_option.ensures.rule) c.verbose_option.ensures.rule
