use Rattle.std.proofs.Common.{rules}
use Rattle.std.proofs.lemmas.Result.{err_from_is_err_and}
use Rattle.jh_shrink.proofs.JudgeLemmas.{goes_nowhere, goes_twice}
use Rattle.jh_shrink.proofs.SubsequenceLemmas.{failing_of, halts_of, sub_self}
use Rattle.jh_shrink.proofs.shrinking.reduce.Goals as goal

pub loop-size-init : goal.loop-size-init
loop-size-init g c =
    let judge = g.J.ScheduleJudge in
    record {
      failing = (sub_self c.args.schedule.now, c.requires.failing);
      some = search rules;
      few = search rules;
      fewer = search rules;
      went_on = goes_nowhere judge.is_ready judge.becomes judge.asked g.met.J.ScheduleJudge.stays c.args.judge.now c.args.meter.now.left
          c.requires.ready;
    }

pub returns-in_err-pass-clause-failing : goal.returns-in_err-pass-clause-failing
returns-in_err-pass-clause-failing g c =
    failing_of (g.J.ScheduleJudge.has_answered c.pass.new.judge) c.args.schedule.now c.loop-size.schedule c.pass.new.schedule
    c.loop-size.invariant.failing.0 c.in_err-pass.ensures.failing

pub returns-in_err-pass-clause-halted : goal.returns-in_err-pass-clause-halted
returns-in_err-pass-clause-halted g c =
    let p = err_from_is_err_and c.from_residual.result c.from_residual.ensures.1 in
    rw (p.1, p.2) (halts_of (g.J.ScheduleJudge.has_answered c.pass.new.judge) c.args.schedule.now c.loop-size.schedule c.pass.new.meter.left
    c.in_err-pass.field-0.0 c.loop-size.invariant.failing.0 c.in_err-pass.ensures.halted)

pub returns-in_err-pass-clause-went_on : goal.returns-in_err-pass-clause-went_on
returns-in_err-pass-clause-went_on g c =
    let judge = g.J.ScheduleJudge in
    goes_twice judge.is_ready judge.becomes judge.asked g.met.J.ScheduleJudge.goes_on c.args.judge.now c.loop-size.judge c.pass.new.judge
    c.args.meter.now.left c.loop-size.meter.left c.pass.new.meter.left c.loop-size.invariant.went_on c.pass.ensures.went_on

-- what a pass left
pub loop-size-preserved : goal.loop-size-preserved
loop-size-preserved g c =
    let judge = g.J.ScheduleJudge in
    record {
      failing = failing_of (judge.has_answered c.pass.new.judge) c.args.schedule.now c.loop-size.schedule c.pass.new.schedule
          c.loop-size.invariant.failing.0 c.pass.ensures.failing;
      some = search rules;
      few = search rules;
      fewer = search rules;
      went_on = goes_twice judge.is_ready judge.becomes judge.asked g.met.J.ScheduleJudge.goes_on c.args.judge.now c.loop-size.judge
          c.pass.new.judge c.args.meter.now.left c.loop-size.meter.left c.pass.new.meter.left c.loop-size.invariant.went_on
          c.pass.ensures.went_on;
    }
