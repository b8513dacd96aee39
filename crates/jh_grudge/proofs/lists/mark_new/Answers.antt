use Rattle.std.proofs.Common.{ℕ, List, ◌++◌, sym, subst, rules}
use Rattle.std.proofs.lemmas.List.{take_all}
use Rattle.jh_grudge.specs.Marks.{AreMetNodes}
use Rattle.jh_grudge.proofs.MetNodeLemmas.{marks_step, marks_stop}
use Rattle.jh_grudge.proofs.lists.mark_new.Goals as goal

pub returns-then-seen-place : goal.returns-then-seen-place
returns-then-seen-place c before start =
    marks_stop c.loop-node.seen before c.args.nodes.now c.loop-node.node-index c.from-place.result c.loop-node-test.true (sym c.from-place.ensures) c.if-seen-place.true (c.loop-node.invariant before start)

pub loop-node-preserved : goal.loop-node-preserved
loop-node-preserved c before start =
    marks_step c.loop-node.seen before c.args.nodes.now c.loop-node.node-index c.from-place.result c.loop-node-test.true (sym c.from-place.ensures) (search rules) c.if-seen-place.false (c.loop-node.invariant before start)

pub returns : goal.returns
returns c before start =
    subst (λ (xs : List ℕ). AreMetNodes c.loop-node.seen (before ++ xs)) (take_all c.loop-node.node-index c.args.nodes.now c.loop-node-test.false) (c.loop-node.invariant before start)
