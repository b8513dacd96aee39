use Rattle.std.proofs.Common.{sym}
use Rattle.toml.specs.View.{view}
use Rattle.jh_settings.proofs.ElementLemmas.{spelled_in}
use Rattle.jh_settings.proofs.elements.element_in.Goals as goal

pub returns-in-Some : goal.returns-in-Some
returns-in-Some c = spelled_in (view c.args.value.now) c.in-Some.text.now (sym c.in-Some.ensures) c.only_element.result c.only_element.ensures
