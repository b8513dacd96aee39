use Rattle.jh_nemesis.proofs.StepLemmas.{undo_back}
use Rattle.jh_nemesis.proofs.laws.undo_restores.Goals as goal

pub returns : goal.returns
returns c = undo_back
