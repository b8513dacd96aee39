use Rattle.std.proofs.Common.{◌+◌, subst, sym}
use Rattle.jh_txn_writers.specs.TableInside.{AreEntriesOf, appends_up_to}
use Rattle.jh_txn_writers.proofs.EntryLemmas.{next_begun}
use Rattle.jh_txn_writers.proofs.table.enter_transaction.Goals as goal

pub returns-clause-after : goal.returns-clause-after
returns-clause-after c =
    let txns = c.args.txns.now in
    let place = c.args.place in
    let entries = c.enter_appends.new.entries in
    subst (λ rows. AreEntriesOf (appends_up_to txns (place + 1) 0) (place + 1) rows c.forget.new.entries.last.items) (sym c.forget.ensures.table)
    (next_begun txns place entries.table.items entries.last.items c.enter_appends.ensures.after c.forget.new.entries.last.items c.forget.ensures.last)
