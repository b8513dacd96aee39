use Rattle.jh_txn_points.proofs.ForkLemmas.{no_fork_order}
use Rattle.jh_txn_points.proofs.laws.forks_have_no_order.Goals as goal

pub returns : goal.returns
returns c = λ txns graph order g kept. no_fork_order txns graph g order kept
