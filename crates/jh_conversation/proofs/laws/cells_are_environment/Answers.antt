use Rattle.jh_conversation.proofs.CellLemmas.{cells_are_environment}
use Rattle.jh_conversation.proofs.laws.cells_are_environment.Goals as goal

pub returns : goal.returns
returns c = cells_are_environment
