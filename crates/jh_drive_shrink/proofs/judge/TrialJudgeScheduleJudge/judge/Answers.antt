use Rattle.std.proofs.Common.{◌≡◌, ◌∙◌, ◌+◌, None, sym, refl, subst}
use Rattle.jh_lines.specs.ByLines.{left_by_lines}
use Rattle.jh_drive_shrink.specs.DriveShrink.{BreaksShrinking, settings_judging}
use Rattle.jh_drive_shrink.specs.ShrinkInside.{AreAt, AreAtError}
use Rattle.jh_drive_shrink.proofs.HeldLemmas.{at_none, is_none}
use Rattle.jh_drive_shrink.proofs.judge.TrialJudgeScheduleJudge.judge.Goals as goal

-- one more trial was held
pub returns-in-Ok-clause-later : goal.returns-in-Ok-clause-later
returns-in-Ok-clause-later g c =
    let same = c.in-Ok.ensures.same in
    let one = c.args.self.now in
    let next = c.answer_by_trial.new.self in
    let t = one.settings.now.test in
    let judging = settings_judging one.settings.now in
    let left = left_by_lines g.B.Read.remaining in
    let contents = g.W.Write.contents in
    let none : one.progress.now.error ≡ None = is_none one.progress.now.error (sym c.is_some.ensures ∙ c.if-is_some.false) in (
      same.0,
      same.1,
      same.2,
      same.3,
      record { answers = c.in-Ok.ensures.kept.answers; none = c.in-Ok.ensures.kept.none },
      λ input before at.
          let went = c.in-Ok.ensures.went input before (subst (AreAtError t judging input (left one.lines.now) before (contents one.writer.now) one.progress.now) none at) in
          subst (λ s. AreAt s.now.test (settings_judging s.now) input (left next.lines.now) before (contents next.writer.now) next.progress.now) (sym same.0)
          (at_none t judging input before (left next.lines.now) (contents next.writer.now) (one.progress.now.asked + 1) next.progress.now same.4 (same.5 ∙ none) went),
    )

-- the next trial did not come to its end
pub returns-in-Err-clause-later : goal.returns-in-Err-clause-later
returns-in-Err-clause-later g c =
    let same = c.in-Err.ensures.same in
    let one = c.args.self.now in
    let next = c.answer_by_trial.new.self in
    let t = one.settings.now.test in
    let judging = settings_judging one.settings.now in
    let left = left_by_lines g.B.Read.remaining in
    let contents = g.W.Write.contents in
    let none : one.progress.now.error ≡ None = is_none one.progress.now.error (sym c.is_some.ensures ∙ c.if-is_some.false) in (
      same.0,
      same.1,
      same.2,
      same.3,
      record { answers = c.in-Err.ensures.kept.answers; none = λ it. refl },
      λ input before at.
          let went = c.in-Err.ensures.went input before (subst (AreAtError t judging input (left one.lines.now) before (contents one.writer.now) one.progress.now) none at) in
          subst (λ s. BreaksShrinking s.now.test (settings_judging s.now) next.progress.now.asked input (left next.lines.now) before (contents next.writer.now) c.in-Err.error) (sym same.0)
          (subst (λ n. BreaksShrinking t judging n input (left next.lines.now) before (contents next.writer.now) c.in-Err.error) (sym same.4) went),
    )
