use Rattle.std.proofs.lemmas.Result.{err_from_is_err_and}
use Rattle.jh_cli.proofs.RunLemmas.{run_refused, settings_refused}
use Rattle.jh_cli.proofs.run_command.run_bytes.Goals as goal

pub returns-in-Ok : goal.returns-in-Ok
returns-in-Ok g c =
    let settings = c.in_ok-settings.settings in
    (settings.plan, settings.mode, settings.budget, c.in_ok-settings.ensures, c.in-Ok.ensures)

pub returns : goal.returns
returns g c =
    let settings = c.in_ok-settings.settings in
    run_refused c.args.input.now settings.plan settings.mode settings.budget c.in-Err.error c.in_ok-settings.ensures c.in-Err.ensures

pub returns-in_err-settings : goal.returns-in_err-settings
returns-in_err-settings g c =
    let p = err_from_is_err_and c.from_residual.result c.from_residual.ensures.1 in
    rw (p.1, p.2) (settings_refused c.args.input.now c.in_err-settings.field-0.0 c.in_err-settings.ensures)
