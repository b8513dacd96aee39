use Rattle.jh_txn_points.proofs.ForkLemmas.{fork_closed, fork_upwards}
use Rattle.jh_txn_points.proofs.laws.fork_graphs_are_searchable.Goals as goal

pub returns : goal.returns
returns c = λ txns graph g. (fork_closed txns graph g, fork_upwards txns graph g)
