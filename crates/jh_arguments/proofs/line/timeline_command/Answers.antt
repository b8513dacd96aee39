use Rattle.std.proofs.Common.{ap, ap₂, codes, ◌≡◌, ◌∙◌}
use Rattle.clap.specs.Words.{app_of, new_app, with_rule}
use Rattle.clap.specs.Simple.{app_of_fields}
use Rattle.jh_arguments.specs.Line.{judged}
use Rattle.jh_arguments.proofs.line.timeline_command.Goals as goal

pub returns-clause-timeline : goal.returns-clause-timeline
returns-clause-timeline c =
    let top : app_of c.after_help.result ≡ new_app (codes "timeline") = ap app_of_fields c.after_help.ensures
    ∙ (ap app_of_fields c.about.ensures ∙ c.new.ensures.app) in
    let named = c.in_ok-command.ensures.shape c.workload_option.ensures.local ∙ ap₂ with_rule top c.workload_option.ensures.rule in
    c.in_ok-timeline.ensures.shape c.verbose_option.ensures.local ∙ ap₂ with_rule
    (c.in_ok-arg-5.ensures.shape c.skip_unread_option.ensures.local ∙ ap₂ with_rule
    (c.in_ok-arg-4.ensures.shape c.run_settings_option.ensures.local ∙ ap₂ with_rule
    (c.in_ok-arg-3.ensures.shape c.index_option-2.ensures.local ∙ ap₂ with_rule
    (c.in_ok-arg-2.ensures.shape c.index_option.ensures.local ∙ ap₂ with_rule
    (c.in_ok-arg.ensures.shape c.flag_option-independent.ensures.local ∙ ap₂ with_rule
    (c.in_ok-judged.ensures.judged ∙ ap (judged c.args.models) named) c.flag_option-independent.ensures.rule) c.index_option.ensures.rule)
    c.index_option-2.ensures.rule) c.run_settings_option.ensures.rule) c.skip_unread_option.ensures.rule) c.verbose_option.ensures.rule
