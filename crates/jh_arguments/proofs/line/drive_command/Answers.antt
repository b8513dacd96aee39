use Rattle.std.proofs.Common.{rules, ap₂, codes, ◌≡◌, ◌∙◌}
use Rattle.clap.specs.Words.{app_of, new_app, with_rule}
use Rattle.jh_arguments.proofs.line.drive_command.Goals as goal

pub returns-clause-drive : goal.returns-clause-drive
returns-clause-drive c =
    let about : app_of c.about.result ≡ new_app (codes "drive") = search rules in
    let top : app_of c.after_help.result ≡ new_app (codes "drive") = search rules in
    c.in_ok-drive.ensures.shape c.verbose_option.ensures.local ∙ ap₂ with_rule
    (c.in_ok-arg.ensures.shape c.test_settings_argument.ensures.local ∙ ap₂ with_rule top c.test_settings_argument.ensures.rule)
    c.verbose_option.ensures.rule
