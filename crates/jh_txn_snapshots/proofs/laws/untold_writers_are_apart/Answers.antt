use Rattle.jh_txn_snapshots.proofs.UntoldLemmas.{at_once_apart, in_turn_apart}
use Rattle.jh_txn_snapshots.proofs.laws.untold_writers_are_apart.Goals as goal

pub returns-clause-at_once : goal.returns-clause-at_once
returns-clause-at_once c = λ txns points distinct once key one other first second pair. at_once_apart txns points distinct once key one other first second pair

pub returns-clause-in_turn : goal.returns-clause-in_turn
returns-clause-in_turn c = λ txns points turn all turns key one other first second pair. in_turn_apart txns points turn all turns key one other first second pair
