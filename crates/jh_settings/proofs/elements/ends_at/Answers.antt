use Rattle.jh_settings.proofs.ElementLemmas.{ends}
use Rattle.jh_settings.proofs.elements.ends_at.Goals as goal

pub returns-in-Ok : goal.returns-in-Ok
returns-in-Ok c = ends c.args.text.now c.args.at c.in-Ok.found c.is_none.result c.is_none.ensures c.in-Ok.ensures.some c.in-Ok.ensures.none
