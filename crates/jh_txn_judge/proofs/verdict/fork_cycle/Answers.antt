use Rattle.std.proofs.Common.{length, sym, subst, arith, inl, inr}
use Rattle.jh_txn.specs.declared.model.ConsistencyModel.TheVariants.{Serializable}
use Rattle.jh_txn.proofs.OrderCheckLemmas.{done_below}
use Rattle.jh_txn_graph.specs.Graphs.{AreHubsUpwards, IsClosed, IsCycleOfPaths, KeepsPaths}
use Rattle.jh_txn_judge.proofs.ForkLemmas.{fork_closed, fork_cycle, fork_upwards, graph_sound, no_order}
use Rattle.jh_txn_seen.proofs.KnownLemmas.{element_below, writers_below}
use Rattle.jh_txn_judge.proofs.verdict.fork_cycle.Goals as goal

pub fork_graph-requires-clause-writers : goal.fork_graph-requires-clause-writers
fork_graph-requires-clause-writers c = writers_below c.args.txns.now c.args.keys c.args.elements c.args.writers.now c.requires.numbered c.requires.writers

pub fork_graph-requires-clause-one : goal.fork_graph-requires-clause-one
fork_graph-requires-clause-one c = done_below c.args.txns.now c.args.one.now.place (c.requires.reads.right c.args.one.now c.requires.forked.first).1.0

pub fork_graph-requires-clause-other : goal.fork_graph-requires-clause-other
fork_graph-requires-clause-other c = done_below c.args.txns.now c.args.other.now.place (c.requires.reads.right c.args.other.now c.requires.forked.second).1.0

pub fork_graph-requires-clause-elements : goal.fork_graph-requires-clause-elements
fork_graph-requires-clause-elements c = λ element h.
    let read = c.args.one.now in
    let saw = c.requires.reads.right read c.requires.forked.first in
    omega (arith, element_below c.args.txns.now c.args.keys c.args.elements c.args.writers.now c.requires.numbered c.requires.writers read.place saw.0 read.key element read.seen.now saw.1 h, c.requires.writers.count)

pub fork_graph-requires-clause-others : goal.fork_graph-requires-clause-others
fork_graph-requires-clause-others c = λ element h.
    let read = c.args.other.now in
    let saw = c.requires.reads.right read c.requires.forked.second in
    omega (arith, element_below c.args.txns.now c.args.keys c.args.elements c.args.writers.now c.requires.numbered c.requires.writers read.place saw.0 read.key element read.seen.now saw.1 h, c.requires.writers.count)

pub order_or_short_cycle-requires-clause-closed : goal.order_or_short_cycle-requires-clause-closed
order_or_short_cycle-requires-clause-closed c =
    let txns = c.args.txns.now in
    let writers = c.args.writers.now in
    let reads = c.args.reads.now in
    let there = c.args.there.now in
    let graph = c.in_ok-graph.graph.items in
    let sound = graph_sound txns c.args.keys c.args.elements writers reads there c.requires.numbered c.requires.writers c.requires.reads c.requires.there graph c.args.one.now c.args.other.now c.requires.forked.first c.requires.forked.second c.in_ok-graph.ensures.steps in
    subst IsClosed (sym c.deref.ensures.value) (fork_closed txns c.args.keys c.args.elements writers reads there c.requires.numbered c.requires.writers c.requires.reads c.requires.there graph sound Serializable c.in_ok-graph.ensures.count)

pub order_or_short_cycle-requires-clause-upwards : goal.order_or_short_cycle-requires-clause-upwards
order_or_short_cycle-requires-clause-upwards c =
    let txns = c.args.txns.now in
    let writers = c.args.writers.now in
    let reads = c.args.reads.now in
    let there = c.args.there.now in
    let graph = c.in_ok-graph.graph.items in
    let sound = graph_sound txns c.args.keys c.args.elements writers reads there c.requires.numbered c.requires.writers c.requires.reads c.requires.there graph c.args.one.now c.args.other.now c.requires.forked.first c.requires.forked.second c.in_ok-graph.ensures.steps in
    subst (λ g. AreHubsUpwards g (length txns)) (sym c.deref.ensures.value) (fork_upwards txns c.args.keys c.args.elements writers reads there c.requires.numbered c.requires.writers c.requires.reads c.requires.there graph sound Serializable)

pub unreachable-requires : goal.unreachable-requires
unreachable-requires c =
    let txns = c.args.txns.now in
    let graph = c.in_ok-graph.graph.items in
    let found = rw c.in-Order.is at c.in_ok-order_or_short_cycle.ensures in
    let kept : KeepsPaths graph (length txns) c.in-Order.field-0.items = subst (λ g. KeepsPaths g (length txns) c.in-Order.field-0.items) c.deref.ensures.value found in
    no_order txns c.args.keys c.args.elements c.args.writers.now c.args.reads.now c.args.there.now c.requires.numbered c.requires.writers c.requires.reads c.requires.there graph c.requires.good c.in-Order.field-0.items kept c.args.one.now c.args.other.now c.requires.forked
    (λ p w t h. (c.in_ok-graph.ensures.steps p w t).1 (inl h)) (λ p w t h. (c.in_ok-graph.ensures.steps p w t).1 (inr h))

pub returns : goal.returns
returns c =
    let txns = c.args.txns.now in
    let writers = c.args.writers.now in
    let reads = c.args.reads.now in
    let there = c.args.there.now in
    let graph = c.in_ok-graph.graph.items in
    let sound = graph_sound txns c.args.keys c.args.elements writers reads there c.requires.numbered c.requires.writers c.requires.reads c.requires.there graph c.args.one.now c.args.other.now c.requires.forked.first c.requires.forked.second c.in_ok-graph.ensures.steps in
    let found = rw c.in-Cycle.is at c.in_ok-order_or_short_cycle.ensures in
    fork_cycle txns c.args.keys c.args.elements writers reads there c.requires.numbered c.requires.writers c.requires.reads c.requires.there graph sound c.in-Cycle.steps.items
    (subst (λ g. IsCycleOfPaths g (length txns) c.in-Cycle.steps.items) c.deref.ensures.value found)
