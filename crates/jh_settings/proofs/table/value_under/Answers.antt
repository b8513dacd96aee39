use Rattle.std.proofs.Common.{◌∙◌, ap}
use Rattle.toml.proofs.Views.{table_get}
use Rattle.toml.specs.Data.{get_member}
use Rattle.toml.specs.View.{table_view}
use Rattle.jh_settings.proofs.table.value_under.Goals as goal

pub returns : goal.returns
returns c =
    let found = table_get c.get.result c.as_str.result.now c.args.table.now.entries c.get.ensures.value in
    found ∙ ap (λ choice. get_member choice (table_view c.args.table.now)) c.as_str.ensures
