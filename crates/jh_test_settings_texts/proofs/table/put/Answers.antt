use Rattle.std.proofs.Common.{ap, ◌∙◌}
use Rattle.toml.specs.View.{table_view, view}
use Rattle.jh_settings_texts.specs.TableInside.{put_member}
use Rattle.jh_settings_texts.proofs.PutLemmas.{inserted_members}
use Rattle.jh_test_settings_texts.proofs.table.put.Goals as goal

pub returns-in-Ok-clause-put : goal.returns-in-Ok-clause-put
returns-in-Ok-clause-put c =
    rw c.in-Ok.ensures.entries
    (inserted_members c.in_ok-name.name c.args.value c.args.table.now.entries
    ∙ ap (λ name. put_member name (view c.args.value) (table_view c.args.table.now)) (c.in_ok-name.ensures.ok ∙ c.as_str.ensures))
