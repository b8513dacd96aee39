use Rattle.jh_txn_writers.proofs.EntryLemmas.{are_writers}
use Rattle.jh_txn_writers.proofs.table.writers_of.Goals as goal

pub returns : goal.returns
returns c =
    are_writers c.args.txns.now c.args.elements c.loop-place.place c.loop-place.entries.table.items c.loop-place.entries.last.items
    c.loop-place-test.false c.loop-place.invariant.elements c.loop-place.invariant.entered
