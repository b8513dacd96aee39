use Rattle.jh_txn.proofs.ToldWriterLemmas.{told}
use Rattle.jh_txn.proofs.laws.told_writers_are_apart.Goals as goal

pub returns : goal.returns
returns c = λ txns model points longest reader at key one other first second once snapshots longests whole kept differ appends others must also tells. told txns model snapshots points longest reader at key once longests whole kept one other first second differ appends others must also tells
