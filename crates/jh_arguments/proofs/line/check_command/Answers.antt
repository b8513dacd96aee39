use Rattle.std.proofs.Common.{ap, ap₂, codes, false, ◌≡◌, ◌∙◌}
use Rattle.clap.specs.Words.{app_of, new_app, rule_of, with_rule}
use Rattle.clap.specs.Simple.{app_of_fields}
use Rattle.jh_arguments.specs.Line.{judged, needed_rule, workload}
use Rattle.jh_arguments.proofs.line.check_command.Goals as goal

pub returns-clause-check : goal.returns-clause-check
returns-clause-check c =
    let top : app_of c.after_help.result ≡ new_app (codes "check") = ap app_of_fields c.after_help.ensures
    ∙ (ap app_of_fields c.about.ensures ∙ c.new.ensures.app) in
    let wanted : rule_of c.required.result ≡ needed_rule (workload c.args.names) = ap rule_of c.required.ensures ∙ ap needed_rule c.workload_option.ensures.rule in
    let local : c.required.result.global ≡ false = rw c.required.ensures c.workload_option.ensures.local in
    let named = c.in_ok-command.ensures.shape local ∙ ap₂ with_rule top wanted in
    c.in_ok-check.ensures.shape c.verbose_option.ensures.local ∙ ap₂ with_rule
    (c.in_ok-arg-5.ensures.shape c.skip_unread_option.ensures.local ∙ ap₂ with_rule
    (c.in_ok-arg-4.ensures.shape c.at_least_option.ensures.local ∙ ap₂ with_rule
    (c.in_ok-arg-3.ensures.shape c.threads_option.ensures.local ∙ ap₂ with_rule
    (c.in_ok-arg-2.ensures.shape c.flag_option-independent.ensures.local ∙ ap₂ with_rule
    (c.in_ok-arg.ensures.shape c.flag_option-explain.ensures.local ∙ ap₂ with_rule
    (c.in_ok-judged.ensures.judged ∙ ap (judged c.args.models) named) c.flag_option-explain.ensures.rule)
    c.flag_option-independent.ensures.rule) c.threads_option.ensures.rule) c.at_least_option.ensures.rule) c.skip_unread_option.ensures.rule)
    c.verbose_option.ensures.rule
