use Rattle.std.proofs.lemmas.Slice.Zip.{AllZip-long}
use Rattle.jh_ops.specs.Operation.{operations}
use Rattle.jh_txn_histories.specs.Histories.{IsTxnOf}
use Rattle.jh_txn_check.proofs.found.find_transactions.Goals as goal

pub finding_by-requires-clause-count : goal.finding_by-requires-clause-count
finding_by-requires-clause-count c = AllZip-long (IsTxnOf (operations c.args.history.now) c.in_ok-read.read.keys c.in_ok-read.read.elements) c.args.pairs.now c.in_ok-read.read.txns.items c.in_ok-read.ensures.read.each
