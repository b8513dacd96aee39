use Rattle.jh_nemesis.proofs.StepLemmas.{change_ends}
use Rattle.jh_nemesis.proofs.laws.change_ends_future.Goals as goal

pub returns : goal.returns
returns c = change_ends
