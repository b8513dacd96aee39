use Rattle.std.proofs.Common.{subst}
use Rattle.std.proofs.lemmas.Result.{err_from_is_err_and}
use Rattle.toml.specs.View.{table_view}
use Rattle.jh_test_parts.specs.Test.{TestValue}
use Rattle.jh_drive_settings.specs.Inside.{RefusesAllowed}
use Rattle.jh_drive_settings.proofs.GoodLemmas.{values_refused}
use Rattle.jh_drive_settings.proofs.TestLemmas.{shares_refused, test_refused, test_means}
use Rattle.jh_drive_settings.proofs.settings.settings_in.Goals as goal

pub returns-in_err-parts : goal.returns-in_err-parts
returns-in_err-parts c =
    let refused = values_refused (table_view c.args.table.now) c.in_err-parts.field-0.0 c.in_err-parts.ensures in
    let p = err_from_is_err_and c.from_residual.result c.from_residual.ensures.1 in
    rw (p.1, p.2) refused

pub returns-in_err-keys : goal.returns-in_err-keys
returns-in_err-keys c =
    let refused = shares_refused (table_view c.args.table.now) c.in_ok-parts.parts c.in_ok-parts.ensures c.in_err-keys.field-0.0 c.in_err-keys.ensures in
    let p = err_from_is_err_and c.from_residual-in_err-keys.result c.from_residual-in_err-keys.ensures.1 in
    rw (p.1, p.2) refused

pub returns-in_err-test : goal.returns-in_err-test
returns-in_err-test c =
    let of_parts = subst (λ (test : TestValue). RefusesAllowed test c.in_err-test.field-0.0) c.data_of.ensures.test c.in_err-test.ensures in
    let refused = test_refused (table_view c.args.table.now) c.in_ok-parts.parts c.in_ok-parts.ensures c.in_ok-keys.keys c.in_ok-keys.ensures.0 c.in_ok-keys.ensures.1 c.in_err-test.field-0.0 of_parts in
    let p = err_from_is_err_and c.from_residual-in_err-test.result c.from_residual-in_err-test.ensures.1 in
    rw (p.1, p.2) refused

pub returns : goal.returns
returns c =
    let of_parts = rw c.data_of.ensures.test at c.in_ok-test.ensures in
    test_means (table_view c.args.table.now) c.in_ok-parts.parts c.in_ok-parts.ensures c.in_ok-keys.keys c.in_ok-keys.ensures.0 c.in_ok-keys.ensures.1 c.requires c.in_ok-test.test of_parts
