use Rattle.std.proofs.Common.{ap, ap₂, codes, true, ◌≡◌, ◌∙◌}
use Rattle.clap.specs.Words.{App, app_of, new_app, with_subcommand}
use Rattle.clap.specs.Simple.{app_of_fields, on_top}
use Rattle.clap.proofs.SimpleLemmas.{plain_fields}
use Rattle.jh_arguments.specs.Line.{jeprun}
use Rattle.jh_arguments.proofs.line.command_line.Goals as goal

abbrev helping : App → App
helping a = on_top (λ s. record s { arg_required_else_help = true }) a

abbrev wants_one : App → App
wants_one a = on_top (λ s. record s { subcommand_required = true }) a

abbrev versioned : App → App
versioned a = on_top (λ s. record s { has_version = true }) a

pub returns-clause-line : goal.returns-clause-line
returns-clause-line c =
    let names = c.workloads-names.result in
    let models = c.models-models.result in
    let env = c.in_ok-env_command.ensures.env in
    let check = c.in_ok-check_command.ensures.check in
    let run = c.in_ok-run_command.ensures.run in
    let shrink = c.in_ok-shrink_command.ensures.shrink in
    let search = c.in_ok-search_command.ensures.search in
    let timeline = c.in_ok-timeline_command.ensures.timeline in
    let drive = c.in_ok-drive_command.ensures.drive in
    let plot = c.in_ok-plot_command.ensures.plot in
    let of_env = plain_fields c.in_ok-env_command.field-0 (ap (λ (a : App). a.top.is_plain) env) in
    let of_check = plain_fields c.in_ok-check_command.field-0 (ap (λ (a : App). a.top.is_plain) check) in
    let of_run = plain_fields c.in_ok-run_command.field-0 (ap (λ (a : App). a.top.is_plain) run) in
    let of_shrink = plain_fields c.in_ok-shrink_command.field-0 (ap (λ (a : App). a.top.is_plain) shrink) in
    let of_search = plain_fields c.in_ok-search_command.field-0 (ap (λ (a : App). a.top.is_plain) search) in
    let of_timeline = plain_fields c.in_ok-timeline_command.field-0 (ap (λ (a : App). a.top.is_plain) timeline) in
    let of_drive = plain_fields c.in_ok-drive_command.field-0 (ap (λ (a : App). a.top.is_plain) drive) in
    let of_plot = plain_fields c.in_ok-plot_command.field-0 (ap (λ (a : App). a.top.is_plain) plot) in
    let asked : app_of c.subcommand_required.result ≡ wants_one (versioned (new_app (codes "jeprun"))) = ap app_of_fields c.subcommand_required.ensures
    ∙ ap wants_one (ap app_of_fields c.version.ensures ∙ ap versioned (ap app_of_fields c.after_help.ensures
    ∙ (ap app_of_fields c.about.ensures ∙ c.new.ensures.app))) in
    let top : app_of c.arg_required_else_help.result ≡ helping (wants_one (versioned (new_app (codes "jeprun")))) = ap app_of_fields c.arg_required_else_help.ensures
    ∙ ap helping asked in
    let whole : app_of c.in_ok-jeprun.jeprun ≡ jeprun names models = c.in_ok-jeprun.ensures.shape of_plot.globals ∙ ap₂ with_subcommand
    (c.in_ok-subcommand-7.ensures.shape of_drive.globals ∙ ap₂ with_subcommand
    (c.in_ok-subcommand-6.ensures.shape of_timeline.globals ∙ ap₂ with_subcommand
    (c.in_ok-subcommand-5.ensures.shape of_search.globals ∙ ap₂ with_subcommand
    (c.in_ok-subcommand-4.ensures.shape of_shrink.globals ∙ ap₂ with_subcommand
    (c.in_ok-subcommand-3.ensures.shape of_run.globals ∙ ap₂ with_subcommand
    (c.in_ok-subcommand-2.ensures.shape of_check.globals ∙ ap₂ with_subcommand
    (c.in_ok-subcommand.ensures.shape of_env.globals ∙ ap₂ with_subcommand top (ap (λ (a : App). a.top) env))
    (ap (λ (a : App). a.top) check)) (ap (λ (a : App). a.top) run)) (ap (λ (a : App). a.top) shrink))
    (ap (λ (a : App). a.top) search)) (ap (λ (a : App). a.top) timeline)) (ap (λ (a : App). a.top) drive)) (ap (λ (a : App). a.top) plot) in
    (names, models, c.workloads-names.ensures, c.models-models.ensures, whole)
