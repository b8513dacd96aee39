use Rattle.std.proofs.Common.{◌<◌, ◌≤◌, ◌∙◌, length, arith, rules, length-set, w64, FitsSigned}
use Rattle.std.proofs.lemmas.Int.{to_z-of_z}
use Rattle.jh_tables.proofs.ChangingLemmas.{bumps_more, bump_room}
use Rattle.jh_tables.proofs.changing.change_clocks.Goals as goal

pub clock_changed-changed-requires-clause-room : goal.clock_changed-changed-requires-clause-room
clock_changed-changed-requires-clause-room c =
    let i = c.loop-node.node-index in
    let x = c.loop-node-item.result in
    let known : x.0 < length c.args.counted.now.nodes = rw (← c.loop-node-item.is) at (c.requires.known i x c.loop-node-test.true) in
    let short : i ≤ length c.args.bumps.now = omega (arith, c.loop-node-test.true) in
    rw (c.node.ensures, c.place-place.ensures)
    (bump_room c.args.change c.args.bumps.now i x.0 c.args.counted.now.nodes c.loop-node.counted.nodes c.requires.right short known c.loop-node.invariant.changed c.requires.room)

pub loop-node-preserved : goal.loop-node-preserved
loop-node-preserved c =
    let i = c.loop-node.node-index in
    let x = c.loop-node-item.result in
    let known : x.0 < length c.args.counted.now.nodes = rw (← c.loop-node-item.is) at (c.requires.known i x c.loop-node-test.true) in
    let fits : FitsSigned w64 x.1 = search rules in
    let value = rw (c.node.ensures, c.place-place.ensures, to_z-of_z w64 x.1 fits) at c.clock_changed-changed.ensures in
    rw (c.write.ensures, c.place-place.ensures) (record {
      changed = bumps_more c.args.change c.args.bumps.now i x c.args.counted.now.nodes c.loop-node.counted.nodes _
          c.loop-node-test.true c.loop-node-item.is known c.loop-node.invariant.many value c.loop-node.invariant.changed;
      many = length-set c.loop-node.counted.nodes _ _ ∙ c.loop-node.invariant.many;
      links = c.loop-node.invariant.links;
      fixes = c.loop-node.invariant.fixes;
      work = omega (arith, c.loop-node.invariant.work);
    })
