use Rattle.std.proofs.Common.{◌<◌, ◌∙◌, length, arith, length-set}
use Rattle.jh_tables.proofs.ChangingLemmas.{nodes_more, can_change_next_node}
use Rattle.jh_tables.proofs.changing.change_nodes.Goals as goal

pub node_changed-changed-requires : goal.node_changed-changed-requires
node_changed-changed-requires c =
    let i = c.loop-node.node-index in
    let x = c.node-item.result in
    let known : x < length c.args.counted.now.nodes = rw (← c.node-item.is) at (c.requires.known i x c.loop-node-test.true) in
    let can = can_change_next_node c.args.change c.args.fault c.args.nodes.now i c.args.counted.now.nodes c.loop-node.counted.nodes x
    c.loop-node-test.true c.node-item.is known c.requires.once c.loop-node.invariant.changed c.requires.room in
    rw (c.node.ensures, c.place-place.ensures) can

pub loop-node-preserved : goal.loop-node-preserved
loop-node-preserved c =
    let i = c.loop-node.node-index in
    let x = c.node-item.result in
    let known : x < length c.args.counted.now.nodes = rw (← c.node-item.is) at (c.requires.known i x c.loop-node-test.true) in
    let value = rw (c.node.ensures, c.place-place.ensures) at c.node_changed-changed.ensures in
    rw (c.write.ensures, c.place-place.ensures) (record {
      changed = nodes_more c.args.change c.args.fault c.args.nodes.now i c.args.counted.now.nodes c.loop-node.counted.nodes x _
          c.loop-node-test.true c.node-item.is known c.requires.once c.loop-node.invariant.many value c.loop-node.invariant.changed;
      many = length-set c.loop-node.counted.nodes _ _ ∙ c.loop-node.invariant.many;
      links = c.loop-node.invariant.links;
      fixes = c.loop-node.invariant.fixes;
      work = omega (arith, c.loop-node.invariant.work);
    })
