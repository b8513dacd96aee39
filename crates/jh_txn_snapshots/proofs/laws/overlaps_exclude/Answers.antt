use Rattle.jh_txn_snapshots.proofs.OverlapLemmas.{no_overlap}
use Rattle.jh_txn_snapshots.proofs.laws.overlaps_exclude.Goals as goal

pub returns : goal.returns
returns c = λ txns model points there back key one other first second once overlap orders. no_overlap txns model points once orders there back key one other first second overlap
