use Rattle.jh_txn_points.proofs.ForkLemmas.{fork_sound}
use Rattle.jh_txn_points.proofs.laws.fork_paths_are_dependencies.Goals as goal

pub returns : goal.returns
returns c = λ txns model graph from why to snap g path. fork_sound txns graph g model snap path.0 from why to path.1
