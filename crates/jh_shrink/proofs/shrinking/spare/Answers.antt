use Rattle.std.proofs.Common.{rules, arith, sym, subst, Some, true}
use Rattle.std.proofs.lemmas.Result.{err_from_is_err_and}
use Rattle.jh_shrink.specs.Shrunk.{IsSubsequence}
use Rattle.jh_shrink.proofs.JudgeLemmas.{goes_nowhere}
use Rattle.jh_shrink.proofs.SubsequenceLemmas.{halts_of, sub_cut, sub_self}
use Rattle.jh_shrink.proofs.shrinking.spare.Goals as goal

pub returns-in_err-rest-clause-failing : goal.returns-in_err-rest-clause-failing
returns-in_err-rest-clause-failing g c = (sub_self c.args.schedule.now, c.requires.failing)

-- nobody was asked
pub returns-in_err-rest-clause-went_on : goal.returns-in_err-rest-clause-went_on
returns-in_err-rest-clause-went_on g c =
    let judge = g.J.ScheduleJudge in
    goes_nowhere judge.is_ready judge.becomes judge.asked g.met.J.ScheduleJudge.stays c.args.judge.now c.args.meter.now.left c.requires.ready

pub returns-in_err-ask-clause-failing : goal.returns-in_err-ask-clause-failing
returns-in_err-ask-clause-failing g c = (
  sub_self c.args.schedule.now,
  g.met.J.ScheduleJudge.keeps c.args.judge.now c.ask.new.judge c.args.schedule.now (Some true) c.ask.ensures.went_on.later c.requires.failing,
)

-- the judge had no answer to what was left
pub returns-in_err-ask-clause-halted : goal.returns-in_err-ask-clause-halted
returns-in_err-ask-clause-halted g c =
    let given = c.args.schedule.now in
    let cut = sub_cut given c.args.from c.args.to (omega (arith, c.requires.part.0)) in
    let sub = subst (λ rest. IsSubsequence rest given) (sym c.in_ok-rest.ensures) cut in
    let p = err_from_is_err_and c.from_residual-in_err-ask.result c.from_residual-in_err-ask.ensures.1 in
    rw (p.1, p.2) (halts_of (g.J.ScheduleJudge.has_answered c.ask.new.judge) given c.in_ok-rest.rest c.ask.new.meter.left
    c.in_err-ask.field-0.0 sub c.in_err-ask.ensures.answer)

pub returns-then-not-branch-clause-failing : goal.returns-then-not-branch-clause-failing
returns-then-not-branch-clause-failing g c = (
  sub_self c.args.schedule.now,
  g.met.J.ScheduleJudge.keeps c.args.judge.now c.ask.new.judge c.args.schedule.now (Some true) c.ask.ensures.went_on.later c.requires.failing,
)

-- what is left fails still
pub returns-clause-failing : goal.returns-clause-failing
returns-clause-failing g c =
    let given = c.args.schedule.now in
    let cut = sub_cut given c.args.from c.args.to (omega (arith, c.requires.part.0)) in
    (subst (λ rest. IsSubsequence rest given) (sym c.in_ok-rest.ensures) cut, search rules)
