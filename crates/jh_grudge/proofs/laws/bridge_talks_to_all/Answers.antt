use Rattle.jh_grudge.proofs.LawLemmas.{bridge_talks}
use Rattle.jh_grudge.proofs.laws.bridge_talks_to_all.Goals as goal

pub returns : goal.returns
returns c = bridge_talks
