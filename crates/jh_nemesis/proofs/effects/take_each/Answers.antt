use Rattle.std.proofs.Common.{◌∙◌, ◌+◌, [], drop, subst}
use Rattle.jh_env.specs.Overlay.{StandsWith, work_of}
use Rattle.jh_nemesis.specs.AcceptedInside.{faults_with_stamps}
use Rattle.jh_nemesis.proofs.EffectLemmas.{stamped_left, work_more}
use Rattle.jh_nemesis.proofs.effects.take_each.Goals as goal

pub take_begun-requires-clause-stands : goal.take_begun-requires-clause-stands
take_begun-requires-clause-stands c =
    let i = c.loop-stamp.stamp-index in
    let left = stamped_left c.args.accepted.now c.args.stamps.now i c.loop-stamp-test.true in
    ([], faults_with_stamps c.args.accepted.now (drop (i + 1) c.args.stamps.now), subst (StandsWith c.loop-stamp.env) left c.loop-stamp.invariant.stands)

pub loop-stamp-preserved : goal.loop-stamp-preserved
loop-stamp-preserved c =
    let i = c.loop-stamp.stamp-index in
    let accepted = c.args.accepted.now in
    let stamps = c.args.stamps.now in
    let left = stamped_left accepted stamps i c.loop-stamp-test.true in
    let kept = c.loop-stamp.invariant.kept in
    record {
      stands = c.take_begun.ensures.stands [] (faults_with_stamps accepted (drop (i + 1) stamps)) (subst (StandsWith c.loop-stamp.env) left c.loop-stamp.invariant.stands);
      kept = record { names = c.take_begun.ensures.kept.names ∙ kept.names; start = c.take_begun.ensures.kept.start ∙ kept.start };
      work = work_more accepted stamps i (work_of c.loop-stamp.env) (work_of c.take_begun.new.env) (work_of c.args.env.now) c.loop-stamp-test.true c.loop-stamp.invariant.work c.take_begun.ensures.work;
    }
