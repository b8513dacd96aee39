use Rattle.std.proofs.Common.{sym, ◌∙◌}
use Rattle.std.proofs.lemmas.Result.{err_from_is_err_and}
use Rattle.toml.specs.View.{table_view}
use Rattle.jh_drive_settings.proofs.GoodLemmas.{final_bad}
use Rattle.jh_drive_settings.proofs.choices.final_under.Goals as goal

pub returns-in_err-generator_under : goal.returns-in_err-generator_under
returns-in_err-generator_under c =
    let there = sym c.is_missing.ensures ∙ c.if-is_missing.false in
    let refused = final_bad (table_view c.args.table.now) c.in_err-generator_under.field-0.0 there c.in_err-generator_under.ensures in
    let p = err_from_is_err_and c.from_residual.result c.from_residual.ensures.1 in
    rw (p.1, p.2) refused
