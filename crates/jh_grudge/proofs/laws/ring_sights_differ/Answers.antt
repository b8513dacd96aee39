use Rattle.jh_grudge.proofs.LawLemmas.{sights_differ}
use Rattle.jh_grudge.proofs.laws.ring_sights_differ.Goals as goal

pub returns : goal.returns
returns c = sights_differ
