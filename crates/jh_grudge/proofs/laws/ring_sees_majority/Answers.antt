use Rattle.jh_grudge.proofs.LawLemmas.{ring_majority}
use Rattle.jh_grudge.proofs.laws.ring_sees_majority.Goals as goal

pub returns : goal.returns
returns c = ring_majority
