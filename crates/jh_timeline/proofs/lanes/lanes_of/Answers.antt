use Rattle.std.proofs.Common.{◌∙◌, None, nat_cmp, subst, sym, take, ◌+◌}
use Rattle.std.specs.BTreeSet.{contains}
use Rattle.jh_timeline.specs.declared.picture.Bar.{Bar}
use Rattle.jh_timeline.proofs.LaneApartLemmas.{Listed, bar_known, bar_new}
use Rattle.jh_timeline.proofs.lanes.lanes_of.Goals as goal
use Rattle.jh_timeline.proofs.lanes.lanes_of.Goals.{then-branch+in_ok-add_client, else-branch}

pub loop-bar-preserved : goal.loop-bar-preserved
loop-bar-preserved c =
    let l = c.loop-bar in
    let d : Bar = record { call = record { client = 0; first = 0; completion = None; last = 0 }; lane = 0 } in
    let new = c.in_ok-insert.ensures in
    elim c.if-branch.branch [
      | then-branch+in_ok-add_client w ↦
          subst (λ lanes. Listed (contains nat_cmp c.insert.new.self) lanes.items (take (l.bar-index + 1) c.args.bars.now)) (sym w.lanes-is)
          (bar_new l.seen c.insert.new.self l.lanes.items w.add_client.new.lanes.items c.args.bars.now l.bar-index d c.loop-bar-test.true l.invariant
          (sym w.if-branch.true ∙ new.added) new.updates w.in_ok-add_client.ensures)
      | else-branch w ↦
          subst (λ lanes. Listed (contains nat_cmp c.insert.new.self) lanes.items (take (l.bar-index + 1) c.args.bars.now)) (sym w.lanes-is)
          (bar_known l.seen c.insert.new.self l.lanes.items c.args.bars.now l.bar-index d c.loop-bar-test.true l.invariant (sym w.if-branch.false ∙ new.added) new.updates)
    ]
