use Rattle.std.proofs.Common.{◌≡◌, ◌<◌, ◌*◌, ◌∙◌, length, arith, length-set}
use Rattle.jh_tables.proofs.ChangingLemmas.{links_more, can_change_next}
use Rattle.jh_tables.proofs.changing.change_links.Goals as goal

pub link_changed-changed-requires : goal.link_changed-changed-requires
link_changed-changed-requires c =
    let n = length c.args.counted.now.nodes in
    let i = c.loop-from.from-index in
    let x = c.loop-from-item.result in
    let known : (x.0 < n) × (x.1 < n) = rw (← c.loop-from-item.is) at (c.requires.known i x c.loop-from-test.true) in
    let can = can_change_next c.args.change c.args.fault c.args.links.now i n c.args.counted.now.links c.loop-from.counted.links x
    c.loop-from-test.true c.loop-from-item.is known.0 known.1 c.requires.once c.loop-from.invariant.changed c.requires.room in
    rw (c.link.ensures, c.place.ensures, c.place-in-loop-from.ensures, c.count-count.ensures.count) can

pub loop-from-preserved : goal.loop-from-preserved
loop-from-preserved c =
    let n = length c.args.counted.now.nodes in
    let i = c.loop-from.from-index in
    let x = c.loop-from-item.result in
    let known : (x.0 < n) × (x.1 < n) = rw (← c.loop-from-item.is) at (c.requires.known i x c.loop-from-test.true) in
    let size : length c.loop-from.counted.links ≡ n * n = c.loop-from.invariant.many ∙ rw c.count-count.ensures.count at c.count-count.ensures.square in
    let value = rw (c.link.ensures, c.place.ensures, c.place-in-loop-from.ensures, c.count-count.ensures.count) at c.link_changed-changed.ensures.changed in
    rw (c.write.ensures, c.place.ensures, c.place-in-loop-from.ensures, c.count-count.ensures.count) (record {
      changed = links_more c.args.change c.args.fault c.args.links.now i n c.args.counted.now.links c.loop-from.counted.links x _
          c.loop-from-test.true c.loop-from-item.is known.0 known.1 c.requires.once size value c.loop-from.invariant.changed;
      nodes = c.loop-from.invariant.nodes;
      fixes = c.loop-from.invariant.fixes;
      work = omega (arith, c.loop-from.invariant.work);
      many = length-set c.loop-from.counted.links _ _ ∙ c.loop-from.invariant.many;
    })
