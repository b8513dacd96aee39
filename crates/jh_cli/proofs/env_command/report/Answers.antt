use Rattle.std.proofs.Common.{◌≡◌, ◌++◌, ◌∙◌, refl, append_assoc}
use Rattle.jh_nemesis.specs.Steps.{answers_of, state_after_all}
use Rattle.jh_cli.specs.EnvText.{answer_lines}
use Rattle.jh_reports.specs.Lines.{active_line, environment_line}
use Rattle.jh_cli.proofs.env_command.report.Goals as goal

pub returns : goal.returns
returns c =
    let env = c.env.result.now in
    let after = c.answer_steps.new.nemesis.state in
    let answers = answer_lines (answers_of c.args.nemesis.state c.args.steps.items) in
    let state : after ≡ state_after_all c.args.nemesis.state c.args.steps.items = c.in_ok-answer_steps.ensures.state in
    let text : c.write_environment.new.output.items ≡ (answers ++ active_line after.active) ++ environment_line env =
    rw (c.in_ok-write_environment.ensures, c.in_ok-write_active.ensures, c.in_ok-answer_steps.ensures.lines, c.new-output.ensures.items) refl in (
      env,
      rw (← state) (record { names = c.env.ensures.names; start = c.env.ensures.start; overlay = c.env.ensures.overlay }),
      rw (← state) (text ∙ append_assoc answers (active_line after.active) (environment_line env)),
    )
