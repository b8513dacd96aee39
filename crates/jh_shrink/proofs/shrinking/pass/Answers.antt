use Rattle.std.proofs.Common.{refl, rules, arith}
use Rattle.std.proofs.lemmas.Result.{err_from_is_err_and}
use Rattle.jh_shrink.proofs.JudgeLemmas.{goes_nowhere, goes_twice}
use Rattle.jh_shrink.proofs.SubsequenceLemmas.{failing_of, halts_of, sub_self}
use Rattle.jh_shrink.proofs.shrinking.pass.Goals as goal

pub loop-place-init : goal.loop-place-init
loop-place-init g c =
    let judge = g.J.ScheduleJudge in
    record {
      failing = (sub_self c.args.schedule.now, c.requires.failing);
      within = omega arith;
      fewer = λ e. cc;
      same = λ e. refl;
      needed = λ e one place low within. absurd (omega (arith, low));
      asked = λ e one. omega arith;
      went_on = goes_nowhere judge.is_ready judge.becomes judge.asked g.met.J.ScheduleJudge.stays c.args.judge.now c.args.meter.now.left
          c.requires.ready;
    }

pub returns-in_err-spare-clause-failing : goal.returns-in_err-spare-clause-failing
returns-in_err-spare-clause-failing g c =
    failing_of (g.J.ScheduleJudge.has_answered c.spare.new.judge) c.args.schedule.now c.loop-place.schedule c.spare.new.schedule
    c.loop-place.invariant.failing.0 c.in_err-spare.ensures.failing

pub returns-in_err-spare-clause-halted : goal.returns-in_err-spare-clause-halted
returns-in_err-spare-clause-halted g c =
    let p = err_from_is_err_and c.from_residual.result c.from_residual.ensures.1 in
    rw (p.1, p.2) (halts_of (g.J.ScheduleJudge.has_answered c.spare.new.judge) c.args.schedule.now c.loop-place.schedule
    c.spare.new.meter.left c.in_err-spare.field-0.0 c.loop-place.invariant.failing.0 c.in_err-spare.ensures.halted)

pub returns-in_err-spare-clause-went_on : goal.returns-in_err-spare-clause-went_on
returns-in_err-spare-clause-went_on g c =
    let judge = g.J.ScheduleJudge in
    goes_twice judge.is_ready judge.becomes judge.asked g.met.J.ScheduleJudge.goes_on c.args.judge.now c.loop-place.judge c.spare.new.judge
    c.args.meter.now.left c.loop-place.meter.left c.spare.new.meter.left c.loop-place.invariant.went_on c.spare.ensures.went_on

-- a part was taken out
pub loop-place-preserved-then-branch : goal.loop-place-preserved-then-branch
loop-place-preserved-then-branch g c =
    let judge = g.J.ScheduleJudge in
    record {
      failing = failing_of (judge.has_answered c.spare.new.judge) c.args.schedule.now c.loop-place.schedule c.spare.new.schedule
          c.loop-place.invariant.failing.0 c.in_ok-spare.ensures.failing;
      within = search rules;
      fewer = search rules;
      same = λ e. cc;
      needed = λ e one. cc;
      asked = λ e one. cc;
      went_on = goes_twice judge.is_ready judge.becomes judge.asked g.met.J.ScheduleJudge.goes_on c.args.judge.now c.loop-place.judge
          c.spare.new.judge c.args.meter.now.left c.loop-place.meter.left c.spare.new.meter.left c.loop-place.invariant.went_on
          c.spare.ensures.went_on;
    }
