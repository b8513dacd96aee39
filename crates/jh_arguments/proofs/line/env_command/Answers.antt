use Rattle.std.proofs.Common.{rules, ap₂, codes, ◌≡◌, ◌∙◌}
use Rattle.clap.specs.Words.{app_of, new_app, with_rule}
use Rattle.jh_arguments.proofs.line.env_command.Goals as goal

pub returns-clause-env : goal.returns-clause-env
returns-clause-env c =
    let about : app_of c.about.result ≡ new_app (codes "env") = search rules in
    let top : app_of c.after_help.result ≡ new_app (codes "env") = search rules in
    c.in_ok-env.ensures.shape c.verbose_option.ensures.local ∙ ap₂ with_rule top c.verbose_option.ensures.rule
