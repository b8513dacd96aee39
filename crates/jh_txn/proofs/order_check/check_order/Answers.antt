use Rattle.std.proofs.Common.{sym, ◌∙◌}
use Rattle.std.proofs.lemmas.Bool.{false≢true}
use Rattle.jh_txn.specs.SerialOrders.{ExplainsReads, IsSerialOrderFor}
use Rattle.jh_txn.proofs.OrderCheckLemmas.{possible_below, whole_if, late_if, order_if, same_answer}
use Rattle.jh_txn.proofs.order_check.check_order.Goals as goal

pub returns-then-not-keeps_time : goal.returns-then-not-keeps_time
returns-then-not-keeps_time c =
    (λ e. absurd (false≢true e), λ orders. absurd (false≢true (sym c.if-not-keeps_time.true ∙ c.keeps_time.ensures.1 (λ asked. late_if c.args.txns.now c.args.order.now orders.serial.distinct (orders.timely asked)))))

pub explains_reads-requires-clause-there : goal.explains_reads-requires-clause-there
explains_reads-requires-clause-there c = possible_below c.args.txns.now c.args.order.now (c.are_possible.ensures.0 c.if-not-are_possible.false)

pub returns-else-not-keeps_time : goal.returns-else-not-keeps_time
returns-else-not-keeps_time c =
    let txns = c.args.txns.now in
    let order = c.args.order.now in
    let known = rw c.in-Some.is at c.in_ok-marked.ensures in
    let possible = c.are_possible.ensures.0 c.if-not-are_possible.false in
    let whole = whole_if txns order c.in-Some.marks.items c.deref.result.now c.deref.ensures.value known.1 (c.has_all_done.ensures.0 c.if-not-has_all_done.false) in
    same_answer c.explains_reads.result (ExplainsReads txns order) (IsSerialOrderFor txns c.args.real_time order) c.explains_reads.ensures
    (order_if txns c.args.real_time order possible known.0 whole (c.keeps_time.ensures.0 c.if-not-keeps_time.false))
    (λ orders. orders.serial.reads)
