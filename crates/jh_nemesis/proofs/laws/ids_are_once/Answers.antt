use Rattle.jh_nemesis.proofs.IdLemmas.{ids_once}
use Rattle.jh_nemesis.proofs.laws.ids_are_once.Goals as goal

pub returns : goal.returns
returns c = ids_once
