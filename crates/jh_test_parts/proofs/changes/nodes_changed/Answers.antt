use Rattle.jh_test_parts.specs.ChangesInside.{node_if_changed}
use Rattle.jh_test_parts.proofs.ChangeLemmas.{found_more}
use Rattle.jh_test_parts.proofs.changes.nodes_changed.Goals as goal

pub loop-node-preserved : goal.loop-node-preserved
loop-node-preserved c =
    found_more (node_if_changed c.args.after.now) c.args.nodes.now c.loop-node.node-index c.node-item.result c.loop-node.changed.items c.push_some.new.items.items c.node_if_changed.result
    c.loop-node-test.true c.node-item.is c.node_if_changed.ensures c.loop-node.invariant c.in_ok-push_some.ensures
