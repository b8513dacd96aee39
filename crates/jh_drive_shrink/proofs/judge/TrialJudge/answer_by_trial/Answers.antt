use Rattle.std.proofs.Common.{ap, subst}
use Rattle.jh_drive.specs.declared.error.DriveError.TheVariants.{OutOfMemory}
use Rattle.jh_drive_shrink.specs.DriveShrink.{settings_judging}
use Rattle.jh_drive_shrink.specs.PartsInside.{place_numbers}
use Rattle.jh_drive_shrink.specs.ShrinkInside.{IsLearnt, KeepsAnswers}
use Rattle.jh_drive_shrink.proofs.HeldLemmas.{err_matched, learnt_answer, learnt_keeps, went_on, went_wrong}
use Rattle.jh_drive_shrink.proofs.judge.TrialJudge.answer_by_trial.Goals as goal

pub returns-in_err-held-clause-went : goal.returns-in_err-held-clause-went
returns-in_err-held-clause-went g c = λ input before it.
    err_matched c.from_residual.result c.in_err-held.field-0.0 _ _ c.from_residual.ensures.1
    (went_wrong c.args.self.now.settings.now.test (settings_judging c.args.self.now.settings.now) input before _ _ _ _ c.args.number c.args.self.now.progress.now c.args.places.now it c.in_err-held.field-0.0 c.in_err-held.ensures.tried)

pub returns-in_err-learn-clause-went : goal.returns-in_err-learn-clause-went
returns-in_err-learn-clause-went g c = λ input before it.
    err_matched c.from_residual-in_err-learn.result OutOfMemory _ _ c.from_residual-in_err-learn.ensures.1 tt

pub returns-clause-kept : goal.returns-clause-kept
returns-clause-kept g c =
    subst (λ p. KeepsAnswers p c.learn.new.progress) (ap (λ p. p.now) c.try_part.ensures.same.3)
    (learnt_keeps c.try_part.new.self.progress.now c.learn.new.progress (place_numbers c.args.places.now) c.in_ok-held.held c.in_ok-learn.field-0 c.in_ok-learn.ensures.learnt)

pub returns-clause-answered : goal.returns-clause-answered
returns-clause-answered g c =
    learnt_answer c.try_part.new.self.progress.now c.learn.new.progress c.args.places.now c.in_ok-held.held c.in_ok-learn.field-0 c.in_ok-learn.ensures.learnt

pub returns-clause-went : goal.returns-clause-went
returns-clause-went g c = λ input before it.
    let learnt = subst (λ p. IsLearnt p c.learn.new.progress (place_numbers c.args.places.now) c.in_ok-held.held c.in_ok-learn.field-0) (ap (λ p. p.now) c.try_part.ensures.same.3) c.in_ok-learn.ensures.learnt in
    went_on c.args.self.now.settings.now.test (settings_judging c.args.self.now.settings.now) input before _ _ _ _ c.args.number c.args.self.now.progress.now c.args.places.now it
    c.learn.new.progress c.in_ok-held.held c.in_ok-learn.field-0 c.in_ok-held.ensures.tried learnt
