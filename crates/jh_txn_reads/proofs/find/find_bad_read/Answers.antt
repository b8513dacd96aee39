use Rattle.std.proofs.Common.{subst, sym}
use Rattle.jh_txn_reads.specs.Inside.{AreEmptyFrom}
use Rattle.jh_txn_reads.proofs.find.find_bad_read.Goals as goal

pub judge_all-requires-clause-empty : goal.judge_all-requires-clause-empty
judge_all-requires-clause-empty c = subst (AreEmptyFrom 0) (sym c.deref_mut.ensures.value) c.in_ok-views.ensures.1
