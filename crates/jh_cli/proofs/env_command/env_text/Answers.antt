use Rattle.std.proofs.Common.{◌-◌, drop, length, rules, take}
use Rattle.jh_edn.specs.View.{view, views}
use Rattle.jh_cli.specs.EnvText.{IsEnvReport, IsEnvWithSteps}
use Rattle.jh_nemesis.specs.State.{first_state}
use Rattle.std.proofs.lemmas.Result.{err_from_is_err_and}
use Rattle.jh_cli.proofs.RefusalLemmas.{first_refused, others_refused, parts_of}
use Rattle.jh_cli.proofs.env_command.env_text.Goals as goal

pub returns-in_err-env : goal.returns-in_err-env
returns-in_err-env c =
    let p = err_from_is_err_and c.from_residual.result c.from_residual.ensures.1 in
    rw p.1 (first_refused c.args.values.now c.first-item.result c.in_err-env.field-0.0 p.0 (search rules) c.first-item.is c.in_err-env.ensures p.2)

pub returns-in_err-steps : goal.returns-in_err-steps
returns-in_err-steps c =
    let env = c.in_ok-env.env in
    let p = err_from_is_err_and c.from_residual-in_err-steps.result c.from_residual-in_err-steps.ensures.1 in
    let others = views (take (length c.args.values.now - 1) (drop 1 c.args.values.now)) in
    let refused = rw c.nodes.ensures.names at c.in_err-steps.ensures.parsed in
    rw (p.1, p.2)
    (others_refused (views c.args.values.now) others (view c.first-item.result) env.names env.start c.in_err-steps.field-0.0
    (parts_of c.args.values.now c.first-item.result c.in-len1-up.len_at_least c.first-item.is) c.in_ok-env.ensures.1 refused)

pub report-requires : goal.report-requires
report-requires c = λ k d below. rw c.new-nemesis.ensures.state (rw c.nodes.ensures.names at (c.in_ok-steps.ensures.fit k d below))

pub returns : goal.returns
returns c =
    let env = c.in_ok-env.env in
    let steps = c.in_ok-steps.steps.items in
    let is_parsed : IsEnvWithSteps (views c.args.values.now) env steps = record {
      first = view c.first-item.result;
      others = views (take (length c.args.values.now - 1) (drop 1 c.args.values.now));
      parts = parts_of c.args.values.now c.first-item.result c.in-len1-up.len_at_least c.first-item.is;
      environment = c.in_ok-env.ensures.1;
      at_start = c.in_ok-env.ensures.0;
      steps_parsed = rw c.nodes.ensures.names at c.in_ok-steps.ensures.parsed;
    } in
    let report : IsEnvReport (first_state env) steps c.in_ok-report.field-0.items = rw c.new-nemesis.ensures.state at c.in_ok-report.ensures in
    (env, steps, is_parsed, report)
