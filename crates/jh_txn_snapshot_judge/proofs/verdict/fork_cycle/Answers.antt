use Rattle.std.proofs.Common.{◌≡◌, ◌+◌, Bool, Err, IfOk, Ok, Result, length, sym, ap, subst, ◌∙◌, arith}
use Rattle.std.specs.Prelude.{Vec}
use Rattle.std.specs.declared.alloc.AllocError.{AllocError}
use Rattle.std.specs.declared.alloc.Global.{Global}
use Rattle.jh_txn.specs.declared.dependency.Step.{Step}
use Rattle.jh_txn.specs.Cycles.{IsSnapshotCycle, first_place}
use Rattle.jh_txn.proofs.OrderCheckLemmas.{done_below}
use Rattle.jh_txn_graph.specs.Graphs.{AreHubsUpwards, IsClosed, IsCycleOfPaths, KeepsPaths}
use Rattle.jh_txn_points.specs.Laws.{IsForkGraphOfGood}
use Rattle.jh_txn_points.proofs.ForkLemmas.{fork_closed, fork_sound, fork_upwards, no_fork_order}
use Rattle.jh_txn_seen.proofs.KnownLemmas.{element_below, writers_below}
use Rattle.jh_txn_snapshot_judge.specs.Judged.{snapshot_model}
use Rattle.jh_txn_snapshot_judge.specs.Nodes.{point_steps}
use Rattle.jh_txn_snapshot_judge.proofs.CycleLemmas.{cycle_found}
use Rattle.jh_txn_snapshot_judge.proofs.JudgeLemmas.{fork_good, of_snapshots}
use Rattle.jh_txn_snapshots.specs.PointCycles.{dependency_steps}
use Rattle.jh_txn_snapshot_judge.proofs.verdict.fork_cycle.Goals as goal

pub fork_points_of-requires-clause-writers : goal.fork_points_of-requires-clause-writers
fork_points_of-requires-clause-writers c = writers_below c.args.txns.now c.args.keys c.args.elements c.args.writers.now c.requires.numbered c.requires.writers

pub fork_points_of-requires-clause-one : goal.fork_points_of-requires-clause-one
fork_points_of-requires-clause-one c = done_below c.args.txns.now c.args.one.now.place (c.requires.reads.right c.args.one.now c.requires.forked.first).1.0

pub fork_points_of-requires-clause-other : goal.fork_points_of-requires-clause-other
fork_points_of-requires-clause-other c = done_below c.args.txns.now c.args.other.now.place (c.requires.reads.right c.args.other.now c.requires.forked.second).1.0

pub fork_points_of-requires-clause-elements : goal.fork_points_of-requires-clause-elements
fork_points_of-requires-clause-elements c = λ element h.
    let read = c.args.one.now in
    let saw = c.requires.reads.right read c.requires.forked.first in
    omega (arith, element_below c.args.txns.now c.args.keys c.args.elements c.args.writers.now c.requires.numbered c.requires.writers read.place saw.0 read.key element read.seen.now saw.1 h, c.requires.writers.count)

pub fork_points_of-requires-clause-others : goal.fork_points_of-requires-clause-others
fork_points_of-requires-clause-others c = λ element h.
    let read = c.args.other.now in
    let saw = c.requires.reads.right read c.requires.forked.second in
    omega (arith, element_below c.args.txns.now c.args.keys c.args.elements c.args.writers.now c.requires.numbered c.requires.writers read.place saw.0 read.key element read.seen.now saw.1 h, c.requires.writers.count)

pub order_or_short_cycle-requires-clause-closed : goal.order_or_short_cycle-requires-clause-closed
order_or_short_cycle-requires-clause-closed c =
    let txns = c.args.txns.now in
    let graph = c.in_ok-graph.graph.items in
    let good : IsForkGraphOfGood txns graph = fork_good txns c.args.keys c.args.elements c.args.writers.now c.args.reads.now c.args.there.now c.args.one.now c.args.other.now graph c.requires.numbered c.requires.good c.requires.writers c.requires.reads c.requires.there c.requires.forked c.in_ok-graph.ensures in
    subst IsClosed (sym c.deref.ensures.value) (fork_closed txns graph good)

pub order_or_short_cycle-requires-clause-upwards : goal.order_or_short_cycle-requires-clause-upwards
order_or_short_cycle-requires-clause-upwards c =
    let txns = c.args.txns.now in
    let graph = c.in_ok-graph.graph.items in
    let good : IsForkGraphOfGood txns graph = fork_good txns c.args.keys c.args.elements c.args.writers.now c.args.reads.now c.args.there.now c.args.one.now c.args.other.now graph c.requires.numbered c.requires.good c.requires.writers c.requires.reads c.requires.there c.requires.forked c.in_ok-graph.ensures in
    subst (λ g. AreHubsUpwards g (length txns + length txns)) (sym c.deref.ensures.value) (fork_upwards txns graph good)

pub unreachable-requires : goal.unreachable-requires
unreachable-requires c =
    let txns = c.args.txns.now in
    let n = length txns in
    let graph = c.in_ok-graph.graph.items in
    let order = c.in-Order.field-0.items in
    let good : IsForkGraphOfGood txns graph = fork_good txns c.args.keys c.args.elements c.args.writers.now c.args.reads.now c.args.there.now c.args.one.now c.args.other.now graph c.requires.numbered c.requires.good c.requires.writers c.requires.reads c.requires.there c.requires.forked c.in_ok-graph.ensures in
    let kept : KeepsPaths graph (n + n) order = subst (λ g. KeepsPaths g (n + n) order) c.deref.ensures.value (rw c.in-Order.is at c.in_ok-order_or_short_cycle.ensures) in
    no_fork_order txns graph good order kept

if_ok_then : (r : Result (Vec Step Global) AllocError) (P Q : Vec Step Global → Type 0) → ((v : Vec Step Global) → P v → Q v) → IfOk r P → IfOk r Q
if_ok_then (Ok v) P Q f h = f v h
if_ok_then (Err e) P Q f h = h

pub returns : goal.returns
returns c =
    let txns = c.args.txns.now in
    let n = length txns in
    let graph = c.in_ok-graph.graph.items in
    let steps = c.in-Cycle.steps.items in
    let good : IsForkGraphOfGood txns graph = fork_good txns c.args.keys c.args.elements c.args.writers.now c.args.reads.now c.args.there.now c.args.one.now c.args.other.now graph c.requires.numbered c.requires.good c.requires.writers c.requires.reads c.requires.there c.requires.forked c.in_ok-graph.ensures in
    let cycle : IsCycleOfPaths graph (n + n) steps = subst (λ g. IsCycleOfPaths g (n + n) steps) c.deref.ensures.value (rw c.in-Cycle.is at c.in_ok-order_or_short_cycle.ensures) in
    if_ok_then c.dependencies_of.result (λ found. found.items ≡ dependency_steps (point_steps n c.deref-in-Cycle.result.now (first_place c.deref-in-Cycle.result.now 0))) (λ found. (real_time : Bool) → IsSnapshotCycle txns (snapshot_model real_time) found.items)
    (λ found is real_time.
    let model = snapshot_model real_time in
    let whole : found.items ≡ dependency_steps (point_steps n steps (first_place steps 0)) = is ∙ ap (λ ss. dependency_steps (point_steps n ss (first_place ss 0))) c.deref-in-Cycle.ensures.value in
    subst (IsSnapshotCycle txns model) (sym whole) (cycle_found txns model graph (λ from why to low below path. fork_sound txns graph good model (of_snapshots real_time) path.0 from why to path.1) steps cycle)) c.dependencies_of.ensures
