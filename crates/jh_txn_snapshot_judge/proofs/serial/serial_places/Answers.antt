use Rattle.std.proofs.Common.{length, sym, ap, subst, arith}
use Rattle.jh_txn.specs.Cycles.{IsCycle}
use Rattle.jh_txn.specs.SerialOrders.{IsSerialOrderFor}
use Rattle.jh_txn.specs.declared.model.ConsistencyModel.TheVariants.{Serializable}
use Rattle.jh_txn.proofs.SerialOrderLemmas.{no_cycle}
use Rattle.jh_txn_graph.specs.Graphs.{AreHubsUpwards, IsClosed, IsCycleOfPaths, KeepsPaths}
use Rattle.jh_txn_judge.specs.Judged.{serial_model}
use Rattle.jh_txn_judge.proofs.JudgeLemmas.{asks_for}
use Rattle.jh_txn_judge.proofs.PathLemmas.{closed, cycle_sound, upwards}
use Rattle.jh_txn_judge.proofs.WholeLemmas.{order_found}
use Rattle.jh_txn_seen.proofs.KnownLemmas.{longest_below, writer_keys_below, writers_below}
use Rattle.jh_txn_snapshot_judge.proofs.serial.serial_places.Goals as goal

pub graph_of-requires-clause-writers : goal.graph_of-requires-clause-writers
graph_of-requires-clause-writers c = writers_below c.args.txns.now (length c.args.longest.now) c.args.elements c.args.writers.now c.requires.numbered c.requires.writers

pub graph_of-requires-clause-writer_keys : goal.graph_of-requires-clause-writer_keys
graph_of-requires-clause-writer_keys c = writer_keys_below c.args.txns.now (length c.args.longest.now) c.args.elements c.args.writers.now c.requires.numbered c.requires.writers

pub graph_of-requires-clause-elements : goal.graph_of-requires-clause-elements
graph_of-requires-clause-elements c = longest_below c.args.txns.now (length c.args.longest.now) c.args.elements c.args.writers.now c.requires.numbered c.requires.writers c.args.reads.now c.requires.reads c.args.longest.now c.requires.longest

pub order_or_cycle-requires-clause-closed : goal.order_or_cycle-requires-clause-closed
order_or_cycle-requires-clause-closed c =
    subst IsClosed (sym c.deref.ensures.value) (closed c.args.txns.now c.args.elements c.args.writers.now c.args.reads.now c.args.there.now c.args.longest.now c.args.real_time c.in_ok-graph.graph.items c.requires.numbered c.requires.writers c.requires.reads c.requires.there c.requires.longest c.requires.good c.requires.ends c.in_ok-graph.ensures Serializable)

pub order_or_cycle-requires-clause-upwards : goal.order_or_cycle-requires-clause-upwards
order_or_cycle-requires-clause-upwards c =
    subst (λ g. AreHubsUpwards g (length c.args.txns.now)) (sym c.deref.ensures.value) (upwards c.args.txns.now c.args.elements c.args.writers.now c.args.reads.now c.args.there.now c.args.longest.now c.args.real_time c.in_ok-graph.graph.items c.requires.numbered c.requires.writers c.requires.reads c.requires.there c.requires.longest c.requires.good c.requires.ends c.in_ok-graph.ensures Serializable)

pub order_or_cycle-requires-clause-count : goal.order_or_cycle-requires-clause-count
order_or_cycle-requires-clause-count c = omega (arith, ap length c.deref.ensures.value, c.in_ok-graph.ensures.count)

pub returns-in-Order : goal.returns-in-Order
returns-in-Order c =
    let txns = c.args.txns.now in
    let graph = c.in_ok-graph.graph.items in
    let places = c.in-Order.places.items in
    let kept : KeepsPaths graph (length txns) places = subst (λ g. KeepsPaths g (length txns) places) c.deref.ensures.value (rw c.in-Order.is at c.in_ok-places.ensures) in
    order_found txns c.args.elements c.args.writers.now c.args.reads.now c.args.there.now c.args.longest.now c.args.real_time graph c.requires.numbered c.requires.writers c.requires.reads c.requires.there c.requires.longest c.requires.good c.requires.ends c.in_ok-graph.ensures places kept (serial_model c.args.real_time) (asks_for c.args.real_time)

pub returns : goal.returns
returns c = λ order serial.
    let txns = c.args.txns.now in
    let graph = c.in_ok-graph.graph.items in
    let model = serial_model c.args.real_time in
    let steps = c.in-Cycle.field-0.items in
    let found : IsCycleOfPaths graph (length txns) steps = subst (λ g. IsCycleOfPaths g (length txns) steps) c.deref.ensures.value (rw c.in-Cycle.is at c.in_ok-places.ensures) in
    let cycle : IsCycle txns model steps = cycle_sound txns c.args.elements c.args.writers.now c.args.reads.now c.args.there.now c.args.longest.now c.args.real_time graph c.requires.numbered c.requires.writers c.requires.reads c.requires.there c.requires.longest c.requires.good c.requires.ends c.in_ok-graph.ensures model (asks_for c.args.real_time) steps found in
    no_cycle txns order c.requires.numbered.once serial.serial model (subst (λ flag. IsSerialOrderFor txns flag order) (sym (asks_for c.args.real_time)) serial) steps cycle
