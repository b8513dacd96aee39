use Rattle.std.proofs.Common.{◌≡◌, ◌+◌, length, length-append, true, refl, ap, sym, ◌∙◌, arith}
use Rattle.std.specs.Prelude.{Some, slice_get}
use Rattle.std.proofs.lemmas.Option.{slice_get_read}
use Rattle.jh_simnode.specs.Running.{is_run_due}
use Rattle.jh_simnode.proofs.BetweenTurnsLemmas.{step_stands, past_settled, early_settled}
use Rattle.jh_simnode.proofs.turns.Run.apply_due.Goals as goal

pub loop-self-preserved : goal.loop-self-preserved
loop-self-preserved c =
    let p = c.args.plan.now in
    let run = c.loop-self.self in
    let e = c.index-entries-self.result in
    let all = c.entries-entries.ensures.entries ∙ c.schedule.ensures.schedule in
    let there : slice_get p.schedule run.applied ≡ Some e = ap (λ l. slice_get l run.applied) (sym all) ∙ slice_get_read c.entries-entries.result.now (length c.entries-entries.result.now) run.applied e refl c.loop-self-test.true c.index-entries-self.is in
    let due : is_run_due run e ≡ true = sym c.is_due.ensures ∙ c.if-not-is_due.false in
    let adds = c.in_ok-step-2.ensures.added in
    let longer : length c.step.new.self.journal ≡ length c.loop-self.world.journal + 1 = ap length adds.journal ∙ length-append c.loop-self.world.journal _ in
    record {
      stands = step_stands p run c.loop-self.world c.step.new.self e c.in_ok-step.step c.in_ok-step-2.field-0.1 c.in_ok-step-2.field-0.0 c.loop-self.invariant.stands there due c.in_ok-step.ensures adds;
      waits = c.loop-self.invariant.waits;
      ended = c.loop-self.invariant.ended;
      grown = (let before = c.loop-self.invariant.grown in omega (arith, before, longer));
    }

pub returns-after-loop-self-clause-settled : goal.returns-after-loop-self-clause-settled
returns-after-loop-self-clause-settled c =
    let all = c.entries-entries.ensures.entries ∙ c.schedule.ensures.schedule in
    past_settled c.args.plan.now c.loop-self.self c.loop-self.world c.loop-self.invariant.stands (let past = c.loop-self-test.false in let long = ap length all in omega (arith, past, long))

pub returns-then-not-is_due-clause-settled : goal.returns-then-not-is_due-clause-settled
returns-then-not-is_due-clause-settled c =
    let p = c.args.plan.now in
    let run = c.loop-self.self in
    let e = c.index-entries-self.result in
    let all = c.entries-entries.ensures.entries ∙ c.schedule.ensures.schedule in
    let there : slice_get p.schedule run.applied ≡ Some e = ap (λ l. slice_get l run.applied) (sym all) ∙ slice_get_read c.entries-entries.result.now (length c.entries-entries.result.now) run.applied e refl c.loop-self-test.true c.index-entries-self.is in
    early_settled p run c.loop-self.world e c.loop-self.invariant.stands there (sym c.is_due.ensures ∙ c.if-not-is_due.true)
