use Rattle.std.proofs.Common.{◌-◌, arith}
use Rattle.jh_timeline.proofs.DrawnLemmas.{noted_more}
use Rattle.jh_timeline.proofs.drawn.notes_of.Goals as goal

pub loop-left-preserved : goal.loop-left-preserved
loop-left-preserved c =
    let l = c.loop-left in
    noted_more l.notes c.insert.new.self c.args.marks.now l.left (l.left - 1) _ (omega arith) (omega (arith, l.invariant.within)) l.invariant c.in_ok-insert.ensures.updates
