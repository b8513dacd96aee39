use Rattle.std.proofs.Common.{◌≡◌, ◌<◌, subst, sym, []}
use Rattle.jh_txn_graph.specs.WalkInside.{IsLoop}
use Rattle.jh_txn_graph.specs.WalkInside.{IsCurrent, IsReturning, turns_at}
use Rattle.jh_txn_graph.proofs.WalkLemmas.{same_turns, node_on, not_over, loop_found, returning_more}
use Rattle.jh_txn_graph.proofs.walk.cycle.Goals as goal

pub loop-node-init : goal.loop-node-init
loop-node-init c =
    let w = c.args.walk in
    subst (λ steps. IsReturning c.args.graph.now w.left.items w.path.items steps c.args.place) (sym c.new-steps.ensures.items)
    (same_turns c.args.graph.now w.left.items w.path.items [] c.args.place w.done.items c.requires.walk c.requires.met.0 c.requires.met.1)

pub current-requires-clause-turns : goal.current-requires-clause-turns
current-requires-clause-turns c =
    let w = c.loop-node.walk in
    subst (λ xs. 0 < turns_at xs c.in-Some.node) (sym c.deref.ensures.value)
    (node_on c.args.graph.now w.left.items w.path.items c.loop-node.steps.items c.args.place c.loop-node.invariant c.pop.new.self.items c.in-Some.node c.in-Some.ensures.items).1

pub unreachable-requires : goal.unreachable-requires
unreachable-requires c =
    let w = c.loop-node.walk in
    not_over c.args.graph.now w.left.items w.path.items c.loop-node.steps.items c.args.place c.loop-node.invariant c.pop.new.self.items c.in-Some.node c.in-Some.ensures.items
    (subst (λ xs. turns_at xs c.in-Some.node ≡ 1) c.deref.ensures.value c.in-None.ensures)

pub returns-then-node-place : goal.returns-then-node-place
returns-then-node-place c =
    let w = c.loop-node.walk in
    let graph = c.args.graph.now in
    let current : IsCurrent graph w.left.items c.in-Some.node c.in-Some-current.step = subst (λ xs. IsCurrent graph xs c.in-Some.node c.in-Some-current.step) c.deref.ensures.value c.in-Some-current.ensures in
    subst (λ steps. IsLoop graph steps) (sym c.in_ok-push-in-Some-current.ensures.items)
    (loop_found graph w.left.items w.path.items c.loop-node.steps.items c.args.place c.loop-node.invariant c.pop.new.self.items c.in-Some.node c.in-Some.ensures.items c.in-Some-current.step current c.if-node-place.true)

pub loop-node-preserved : goal.loop-node-preserved
loop-node-preserved c =
    let w = c.loop-node.walk in
    let graph = c.args.graph.now in
    let current : IsCurrent graph w.left.items c.in-Some.node c.in-Some-current.step = subst (λ xs. IsCurrent graph xs c.in-Some.node c.in-Some-current.step) c.deref.ensures.value c.in-Some-current.ensures in
    subst (λ steps. IsReturning graph w.left.items c.pop.new.self.items steps c.args.place) (sym c.in_ok-push-in-Some-current.ensures.items)
    (returning_more graph w.left.items w.path.items c.loop-node.steps.items c.args.place c.loop-node.invariant c.pop.new.self.items c.in-Some.node c.in-Some.ensures.items c.in-Some-current.step current c.if-node-place.false)
