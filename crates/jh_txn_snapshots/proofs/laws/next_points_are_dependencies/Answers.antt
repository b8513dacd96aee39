use Rattle.jh_txn_snapshots.proofs.NextReasonLemmas.{is_dependency}
use Rattle.jh_txn_snapshots.proofs.laws.next_points_are_dependencies.Goals as goal

pub returns : goal.returns
returns c = λ txns model longest why first second good longests next. is_dependency txns model longest good longests why first second next.0 next.1
