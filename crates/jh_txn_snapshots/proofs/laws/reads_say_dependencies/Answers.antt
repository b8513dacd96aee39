use Rattle.jh_txn_snapshots.proofs.SaidByReadsLemmas.{says_dependencies}
use Rattle.jh_txn_snapshots.proofs.laws.reads_say_dependencies.Goals as goal

pub returns : goal.returns
returns c = λ txns model place index key seen snapshots saw. says_dependencies txns model place index key seen snapshots saw
