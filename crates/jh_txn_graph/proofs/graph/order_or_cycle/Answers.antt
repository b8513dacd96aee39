use Rattle.std.proofs.Common.{subst, sym, ap, ◌∙◌}
use Rattle.std.specs.Prelude.{nat_lt, filter}
use Rattle.jh_txn_graph.specs.Graphs.{KeepsPaths}
use Rattle.jh_txn_graph.proofs.HubLemmas.{has_transaction, keeps_paths}
use Rattle.jh_txn_graph.proofs.graph.order_or_cycle.Goals as goal

pub cycle_of-requires : goal.cycle_of-requires
cycle_of-requires c =
    let found = rw c.in-Cycle.is at c.in_ok-nodes.ensures in
    has_transaction c.args.graph.now c.args.count c.requires.upwards c.in-Cycle.steps.items found

pub returns-in_ok-order-in-Order : goal.returns-in_ok-order-in-Order
returns-in_ok-order-in-Order c =
    let count = c.args.count in
    let found = rw c.in-Order.is at c.in_ok-nodes.ensures in
    subst (KeepsPaths c.args.graph.now count) (sym (c.in_ok-order-in-Order.ensures ∙ ap (λ xs. filter (λ node. nat_lt node count) xs) c.deref.ensures.value))
    (keeps_paths c.args.graph.now count c.in-Order.nodes.items found c.requires.count)

pub returns-in_ok-cycle-in-Cycle : goal.returns-in_ok-cycle-in-Cycle
returns-in_ok-cycle-in-Cycle c =
    let found = rw c.in-Cycle.is at c.in_ok-nodes.ensures in
    c.in_ok-cycle-in-Cycle.ensures c.args.graph.now found
