use Rattle.jh_txn.proofs.NextDependencyLemmas.{keeps_all}
use Rattle.jh_txn.proofs.laws.next_dependencies_suffice.Goals as goal

pub returns : goal.returns
returns c = λ txns model longest order once good all longests keeps. keeps_all txns model longest order once good all longests keeps
