use Rattle.std.proofs.Common.{◌<◌, length, take, arith}
use Rattle.std.proofs.lemmas.List.{get_or_default}
use Rattle.jh_ops.specs.Operation.{operations}
use Rattle.jh_txn_histories.specs.Histories.{IsTxnOf}
use Rattle.jh_txn_histories.proofs.GrowLemmas.{txns_stay, zip_push}
use Rattle.jh_txn_histories.proofs.numbered.txns_of.Goals as goal

pub loop-pair-preserved : goal.loop-pair-preserved
loop-pair-preserved c =
    let l = c.loop-pair in
    let history = operations c.args.history.now in
    let pairs = c.args.pairs.now in
    let new = c.txn_of.new.tables in
    let low : l.pair-index < length pairs = omega arith in
    zip_push (IsTxnOf history new.keys new.elements) pairs l.pair-index _ l.txns.items c.push.new.self.items c.in_ok-txn_of.field-0 low (get_or_default pairs l.pair-index _ _ low) c.in_ok-push.ensures.items
    (txns_stay l.tables new c.in_ok-txn_of.ensures.grows history (take l.pair-index pairs) l.txns.items l.invariant) c.in_ok-txn_of.ensures.txn
