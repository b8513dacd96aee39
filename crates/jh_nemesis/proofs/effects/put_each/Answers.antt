use Rattle.std.proofs.Common.{◌∙◌, ◌+◌, [], arith, subst, sym, take}
use Rattle.std.proofs.lemmas.List.{append-nil, length-map, length-take-le}
use Rattle.jh_env.specs.Overlay.{StandsWith, work_of}
use Rattle.jh_tables.specs.Standing.{AreInOrder}
use Rattle.jh_nemesis.specs.AcceptedInside.{fault_with_stamp, faults_with_stamps}
use Rattle.jh_nemesis.proofs.EffectLemmas.{rise_take, stamped_more, stamps_rise, work_more}
use Rattle.jh_nemesis.proofs.effects.put_each.Goals as goal

pub put_begun-requires-clause-room : goal.put_begun-requires-clause-room
put_begun-requires-clause-room c =
    let i = c.loop-stamp.stamp-index in
    let stamps = c.args.stamps.now in
    omega (
      arith,
      c.loop-stamp.invariant.stands.laid,
      length-map (take i stamps) (fault_with_stamp c.args.accepted.now),
      length-take-le i stamps (omega (arith, c.loop-stamp-test.true)),
      c.loop-stamp-test.true,
      c.requires.few.1,
    )

pub loop-stamp-preserved : goal.loop-stamp-preserved
loop-stamp-preserved c =
    let i = c.loop-stamp.stamp-index in
    let accepted = c.args.accepted.now in
    let stamps = c.args.stamps.now in
    let before = faults_with_stamps accepted (take i stamps) in
    let more = stamped_more accepted stamps i c.loop-stamp-test.true in
    let kept = c.loop-stamp.invariant.kept in
    record {
      stands = subst (StandsWith c.put_begun.new.env) (sym more)
          (c.put_begun.ensures.stands before [] (subst AreInOrder more (stamps_rise accepted (take (i + 1) stamps) (rise_take (i + 1) stamps c.requires.rise)))
          (subst (StandsWith c.loop-stamp.env) (sym (append-nil before)) c.loop-stamp.invariant.stands));
      kept = record { names = c.put_begun.ensures.kept.names ∙ kept.names; start = c.put_begun.ensures.kept.start ∙ kept.start };
      work = work_more accepted stamps i (work_of c.loop-stamp.env) (work_of c.put_begun.new.env) (work_of c.args.env.now) c.loop-stamp-test.true c.loop-stamp.invariant.work c.put_begun.ensures.work;
    }
