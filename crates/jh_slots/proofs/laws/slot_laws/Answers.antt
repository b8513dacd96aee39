use Rattle.jh_slots.proofs.LawLemmas.{slot_laws_hold}
use Rattle.jh_slots.proofs.laws.slot_laws.Goals as goal

pub returns : goal.returns
returns c = slot_laws_hold
