use Rattle.jh_txn.proofs.KeepingLemmas.{explained_read, begin_one_another}
use Rattle.jh_txn.proofs.laws.kept_reads_are_explained.Goals as goal

pub returns-clause-explained : goal.returns-clause-explained
returns-clause-explained c = λ txns order front back place index key seen once good all cut saw kept. explained_read txns order once good all front back place index key seen cut saw kept

pub returns-clause-begin : goal.returns-clause-begin
returns-clause-begin c = λ txns order one index other at key seen shown once good all saw kept also others. begin_one_another txns order once good all one index other at key seen shown saw kept also others
