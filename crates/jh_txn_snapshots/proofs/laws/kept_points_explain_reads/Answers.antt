use Rattle.jh_txn_snapshots.proofs.ReadPointLemmas.{explained_read, begin_one_another}
use Rattle.jh_txn_snapshots.proofs.laws.kept_points_explain_reads.Goals as goal

pub returns-clause-explained : goal.returns-clause-explained
returns-clause-explained c = λ txns points front back place index key seen once good all cut saw kept. explained_read txns points once good all front back place index key seen cut saw kept

pub returns-clause-begin : goal.returns-clause-begin
returns-clause-begin c = λ txns points one index other at key seen shown once good all saw kept also others. begin_one_another txns points once good all one index other at key seen shown saw kept also others
