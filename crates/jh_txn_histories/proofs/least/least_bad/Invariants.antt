use Rattle.std.proofs.Common.{take}
use Rattle.jh_ops.specs.Operation.{operations}
use Rattle.jh_txn_histories.specs.Histories.{IsBadAt}
use Rattle.jh_txn_histories.specs.ReadingInside.{IsLeastPlace}
use Rattle.jh_txn_histories.proofs.least.least_bad.Given as goal

abbrev pub invariant-loop-pair : goal.invariant-loop-pair
invariant-loop-pair l = IsLeastPlace (IsBadAt (operations l.history) (take l.pair-index l.pairs)) l.least
