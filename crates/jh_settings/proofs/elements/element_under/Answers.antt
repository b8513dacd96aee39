use Rattle.std.proofs.Common.{refl, sym}
use Rattle.toml.specs.View.{table_view, view}
use Rattle.jh_settings.proofs.ElementLemmas.{none_held}
use Rattle.jh_settings.proofs.elements.element_under.Goals as goal

pub returns-in-None : goal.returns-in-None
returns-in-None c =
    let none = rw c.in-None.is at c.in_ok-element.ensures in
    (refl, none_held c.args.key (table_view c.args.table.now) (view c.in-Some.value.now) (sym c.in-Some.ensures) none)
