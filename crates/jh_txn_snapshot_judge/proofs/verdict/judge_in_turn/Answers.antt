use Rattle.std.proofs.Common.{◌≡◌, ◌+◌, false, filter, get_or, length, map, sym, ap, subst, ◌∙◌}
use Rattle.jh_txn.specs.SnapshotOrders.{IsSnapshotOrderFor}
use Rattle.jh_txn.specs.Cycles.{IsSnapshotCycle, first_place}
use Rattle.jh_txn_graph.specs.Graphs.{AreHubsUpwards, IsClosed, IsCycleOfPaths, KeepsPaths}
use Rattle.jh_txn_points.proofs.SoundLemmas.{points_closed, points_upwards, sound}
use Rattle.jh_txn_snapshot_judge.specs.Judged.{snapshot_model}
use Rattle.jh_txn_snapshot_judge.specs.Nodes.{point_at, point_steps, transaction_at}
use Rattle.jh_txn_snapshot_judge.specs.TurnsInside.{HasTurn, KeepsTurns}
use Rattle.jh_txn_snapshot_judge.proofs.CycleLemmas.{cycle_found}
use Rattle.jh_txn_snapshot_judge.proofs.JudgeLemmas.{asks_for, of_snapshots}
use Rattle.jh_txn_snapshot_judge.proofs.TurnLemmas.{pair_of}
use Rattle.jh_txn_snapshot_judge.proofs.VerdictLemmas.{chosen_points, order_found, turns_apart}
use Rattle.jh_txn_snapshots.specs.PointCycles.{dependency_steps}
use Rattle.jh_txn_snapshot_judge.proofs.verdict.judge_in_turn.Goals as goal

pub order_or_short_cycle-requires-clause-closed : goal.order_or_short_cycle-requires-clause-closed
order_or_short_cycle-requires-clause-closed c =
    subst IsClosed (sym c.deref.ensures.value) (points_closed c.args.txns.now c.args.elements c.args.writers.now c.args.reads.now c.args.there.now c.args.longest.now c.args.real_time c.in_ok-graph.graph.items c.requires.numbered c.requires.writers c.requires.reads c.requires.there c.requires.longest c.requires.good c.requires.ends c.in_ok-graph.ensures (snapshot_model c.args.real_time) (of_snapshots c.args.real_time))

pub order_or_short_cycle-requires-clause-upwards : goal.order_or_short_cycle-requires-clause-upwards
order_or_short_cycle-requires-clause-upwards c =
    subst (λ g. AreHubsUpwards g (length c.args.txns.now + length c.args.txns.now)) (sym c.deref.ensures.value) (points_upwards c.args.txns.now c.args.elements c.args.writers.now c.args.reads.now c.args.there.now c.args.longest.now c.args.real_time c.in_ok-graph.graph.items c.requires.numbered c.requires.writers c.requires.reads c.requires.there c.requires.longest c.requires.good c.requires.ends c.in_ok-graph.ensures (snapshot_model c.args.real_time) (of_snapshots c.args.real_time))

pub order_in_turn-requires-clause-closed : goal.order_in_turn-requires-clause-closed
order_in_turn-requires-clause-closed c =
    subst IsClosed (sym c.deref_mut.ensures.value) (points_closed c.args.txns.now c.args.elements c.args.writers.now c.args.reads.now c.args.there.now c.args.longest.now c.args.real_time c.in_ok-graph.graph.items c.requires.numbered c.requires.writers c.requires.reads c.requires.there c.requires.longest c.requires.good c.requires.ends c.in_ok-graph.ensures (snapshot_model c.args.real_time) (of_snapshots c.args.real_time))

pub order_in_turn-requires-clause-upwards : goal.order_in_turn-requires-clause-upwards
order_in_turn-requires-clause-upwards c =
    subst (λ g. AreHubsUpwards g (length c.args.txns.now + length c.args.txns.now)) (sym c.deref_mut.ensures.value) (points_upwards c.args.txns.now c.args.elements c.args.writers.now c.args.reads.now c.args.there.now c.args.longest.now c.args.real_time c.in_ok-graph.graph.items c.requires.numbered c.requires.writers c.requires.reads c.requires.there c.requires.longest c.requires.good c.requires.ends c.in_ok-graph.ensures (snapshot_model c.args.real_time) (of_snapshots c.args.real_time))

pub order_in_turn-requires-clause-kept : goal.order_in_turn-requires-clause-kept
order_in_turn-requires-clause-kept c =
    let n = length c.args.txns.now in
    let order = c.in-Order.order.items in
    let kept : KeepsPaths c.deref.result.now (n + n) order = rw c.in-Order.is at c.in_ok-order.ensures in
    subst (λ g. KeepsPaths g (n + n) order) (c.deref.ensures.value ∙ sym c.deref_mut.ensures.value) kept

pub returns-in-None : goal.returns-in-None
returns-in-None c =
    let found : HasTurn c.args.txns.now c.args.untold.now c.in-Order.order.items = rw c.in-None.is at c.in_ok-order_in_turn-in-Order.ensures in
    pair_of c.args.txns.now c.args.untold.now (length c.args.longest.now) c.args.elements c.requires.numbered c.requires.untold c.in-Order.order.items found

pub returns-in-Order : goal.returns-in-Order
returns-in-Order c =
    let txns = c.args.txns.now in
    let n = length txns in
    let writers = c.args.writers.now in
    let there = c.args.there.now in
    let graph = c.in_ok-graph.graph.items in
    let order = c.in-Order.order.items in
    let nodes = c.in-Some.nodes.items in
    let model = snapshot_model c.args.real_time in
    let first : KeepsPaths graph (n + n) order = subst (λ g. KeepsPaths g (n + n) order) c.deref.ensures.value (rw c.in-Order.is at c.in_ok-order.ensures) in
    let found : KeepsPaths c.deref_mut.result.now (n + n) nodes × KeepsTurns txns c.args.untold.now order nodes = rw c.in-Some.is at c.in_ok-order_in_turn-in-Order.ensures in
    let kept : KeepsPaths graph (n + n) nodes = subst (λ g. KeepsPaths g (n + n) nodes) c.deref_mut.ensures.value found.0 in
    let chosen : c.in_ok-nodes-in-Some.nodes.items ≡ filter (λ node. get_or there (transaction_at n node) false) nodes = c.in_ok-nodes-in-Some.ensures ∙ ap (filter (λ node. get_or there (transaction_at n node) false)) c.deref-in-Some.ensures.value in
    let is : c.in_ok-points-in-Some.points.items ≡ chosen_points n there nodes = c.in_ok-points-in-Some.ensures ∙ ap (map (point_at n)) (c.deref-in-Some-2.ensures.value ∙ chosen) in
    let apart = turns_apart txns c.args.elements writers c.args.reads.now there c.args.longest.now c.args.real_time graph c.requires.numbered c.requires.writers c.requires.reads c.requires.there c.requires.longest c.requires.good c.requires.ends c.in_ok-graph.ensures model (of_snapshots c.args.real_time) (asks_for c.args.real_time) nodes kept c.args.untold.now order c.requires.untold first found.1 in
    subst (IsSnapshotOrderFor txns c.args.real_time) (sym is)
    (order_found txns c.args.elements writers c.args.reads.now there c.args.longest.now c.args.real_time graph c.requires.numbered c.requires.writers c.requires.reads c.requires.there c.requires.longest c.requires.good c.requires.ends c.in_ok-graph.ensures model (of_snapshots c.args.real_time) (asks_for c.args.real_time) nodes kept apart)

pub returns : goal.returns
returns c =
    let txns = c.args.txns.now in
    let n = length txns in
    let graph = c.in_ok-graph.graph.items in
    let steps = c.in-Cycle.steps.items in
    let model = snapshot_model c.args.real_time in
    let cycle : IsCycleOfPaths graph (n + n) steps = subst (λ g. IsCycleOfPaths g (n + n) steps) c.deref.ensures.value (rw c.in-Cycle.is at c.in_ok-order.ensures) in
    let is : c.in_ok-steps-in-Cycle.steps.items ≡ dependency_steps (point_steps n steps (first_place steps 0)) = c.in_ok-steps-in-Cycle.ensures ∙ ap (λ ss. dependency_steps (point_steps n ss (first_place ss 0))) c.deref-in-Cycle.ensures.value in
    subst (IsSnapshotCycle txns model) (sym is)
    (cycle_found txns model graph (λ from why to low below path. sound txns c.args.elements c.args.writers.now c.args.reads.now c.args.there.now c.args.longest.now c.args.real_time graph c.requires.numbered c.requires.writers c.requires.reads c.requires.there c.requires.longest c.requires.good c.requires.ends c.in_ok-graph.ensures model (of_snapshots c.args.real_time) (asks_for c.args.real_time) path.0 from why to low below path.1) steps cycle)
