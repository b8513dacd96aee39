use Rattle.jh_grudge.proofs.LawLemmas.{complete_self, bridge_self, ring_self}
use Rattle.jh_grudge.proofs.laws.each_sees_itself.Goals as goal

pub returns-clause-complete : goal.returns-clause-complete
returns-clause-complete c = complete_self

pub returns-clause-bridge : goal.returns-clause-bridge
returns-clause-bridge c = bridge_self

pub returns-clause-ring : goal.returns-clause-ring
returns-clause-ring c = ring_self
