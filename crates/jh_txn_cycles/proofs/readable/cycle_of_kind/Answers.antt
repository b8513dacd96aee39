use Rattle.std.proofs.Common.{sym, subst}
use Rattle.jh_txn_graph.specs.Graphs.{AreHubsUpwards, IsClosed}
use Rattle.jh_txn_cycles.proofs.PartLemmas.{part_closed, part_upwards}
use Rattle.jh_txn_cycles.proofs.readable.cycle_of_kind.Goals as goal

pub order_or_cycle-requires-clause-closed : goal.order_or_cycle-requires-clause-closed
order_or_cycle-requires-clause-closed c =
    subst IsClosed (sym c.deref.ensures.value) (part_closed c.args.graph.now c.in_ok-part.part.items c.in_ok-part.ensures c.requires.closed)

pub order_or_cycle-requires-clause-upwards : goal.order_or_cycle-requires-clause-upwards
order_or_cycle-requires-clause-upwards c =
    subst (λ part. AreHubsUpwards part c.args.shape.count) (sym c.deref.ensures.value)
    (part_upwards c.args.graph.now c.in_ok-part.part.items c.args.shape.count c.in_ok-part.ensures c.requires.upwards)
