use Rattle.jh_edn.proofs.JoinLemmas.{once}
use Rattle.jh_edn.proofs.laws.spelled_once.Goals as goal

pub returns : goal.returns
returns c = once
