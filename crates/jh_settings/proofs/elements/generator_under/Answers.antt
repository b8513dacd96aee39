use Rattle.std.proofs.Common.{refl}
use Rattle.toml.specs.View.{table_view}
use Rattle.jh_edn.specs.View.{view}
use Rattle.jh_settings.proofs.GeneratorLemmas.{means_no_generator}
use Rattle.jh_settings.proofs.elements.generator_under.Goals as goal

pub returns-in-Err-BadGenerator : goal.returns-in-Err-BadGenerator
returns-in-Err-BadGenerator c =
    let none = rw c.in-Err-BadGenerator.field-0-is at c.in-Err-BadGenerator.ensures in
    (refl, means_no_generator c.args.key (table_view c.args.table.now) (view c.in_ok-element.element) c.in_ok-element.ensures none)
