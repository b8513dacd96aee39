use Rattle.std.proofs.Common.{◌≡◌, ◌<◌, ◌+◌, ◌∙◌, length, get_or, subst, sym, ap, arith}
use Rattle.jh_txn.specs.Transactions.{ops_at}
use Rattle.jh_txn_writers.specs.TableInside.{AreEntriesOf, appends_up_to, table_behind}
use Rattle.jh_txn_writers.proofs.EntryLemmas.{enterable, behind, length_last, length_table}
use Rattle.jh_txn_writers.proofs.table.enter_appends.Goals as goal

pub enter_op-requires : goal.enter_op-requires
enter_op-requires c =
    let txns = c.args.txns.now in
    let place = c.args.place in
    let i = c.loop-op.op-index in
    let op = c.op-item.result in
    let low : i < length (ops_at txns place) = omega (arith, ap length c.ops_of-op-items.ensures, c.loop-op-test.true) in
    let is : get_or (ops_at txns place) i op ≡ op = sym (c.op-item.is ∙ ap (λ ops. get_or ops i op) c.ops_of-op-items.ensures) in
    enterable txns place i _ _ c.requires.numbered c.loop-op.entries.table.items c.loop-op.entries.last.items c.loop-op.invariant.keys c.loop-op.invariant.elements c.loop-op.invariant.entered op low is

pub loop-op-preserved : goal.loop-op-preserved
loop-op-preserved c =
    let txns = c.args.txns.now in
    let place = c.args.place in
    let i = c.loop-op.op-index in
    let op = c.op-item.result in
    let table = c.loop-op.entries.table.items in
    let last = c.loop-op.entries.last.items in
    let low : i < length (ops_at txns place) = omega (arith, ap length c.ops_of-op-items.ensures, c.loop-op-test.true) in
    let is : get_or (ops_at txns place) i op ≡ op = sym (c.op-item.is ∙ ap (λ ops. get_or ops i op) c.ops_of-op-items.ensures) in
    record {
      keys = ap length c.enter_op.ensures.last ∙ length_last last op ∙ c.loop-op.invariant.keys;
      elements = ap length c.enter_op.ensures.table ∙ length_table table last place op ∙ c.loop-op.invariant.elements;
      entered = subst (λ rows. AreEntriesOf (appends_up_to txns place (i + 1)) place rows c.enter_op.new.entries.last.items) (sym c.enter_op.ensures.table)
          (subst (λ rows. AreEntriesOf (appends_up_to txns place (i + 1)) place (table_behind table last place op) rows) (sym c.enter_op.ensures.last)
          (behind txns place i _ _ c.requires.numbered table last c.loop-op.invariant.keys c.loop-op.invariant.elements c.loop-op.invariant.entered op low is));
    }
