use Rattle.std.proofs.Common.{take}
use Rattle.std.specs.List.{AllZip}
use Rattle.jh_ops.specs.Operation.{operations}
use Rattle.jh_txn_histories.specs.Histories.{IsTxnOf}
use Rattle.jh_txn_histories.proofs.numbered.txns_of.Given as goal

abbrev pub invariant-loop-pair : goal.invariant-loop-pair
invariant-loop-pair l =
    AllZip (IsTxnOf (operations l.history) l.tables.keys l.tables.elements) (take l.pair-index l.pairs) l.txns.items
