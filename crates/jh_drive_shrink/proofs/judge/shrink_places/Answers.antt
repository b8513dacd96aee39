use Rattle.std.proofs.Common.{sym, subst}
use Rattle.jh_lines.specs.ByLines.{left_by_lines}
use Rattle.jh_drive_shrink.specs.DriveShrink.{settings_judging}
use Rattle.jh_drive_shrink.specs.ShrinkInside.{AreAt}
use Rattle.jh_drive_shrink.proofs.HeldLemmas.{at_first, at_none}
use Rattle.jh_drive_shrink.proofs.judge.shrink_places.Goals as goal

-- the lines, the writer and how far it is end as the judge leaves them, which keeps those that were lent
pub returns-clause-went : goal.returns-clause-went
returns-clause-went g c =
    let judge = c.shrink_by.new.judge in
    let later = c.shrink_by.ensures.later in
    let fresh = c.requires.fresh in
    let t = c.args.settings.now.test in
    let judging = settings_judging c.args.settings.now in
    let left = left_by_lines g.B.Read.remaining in
    let contents = g.W.Write.contents in
    let input = left c.args.lines.now in
    let before = contents c.args.writer.now in
    let first = at_none t judging input before input before 0 c.args.progress.now fresh.asked fresh.error (at_first t judging input before c.args.progress.now fresh.answers fresh.read) in
    let at = subst (λ s. AreAt s.now.test (settings_judging s.now) input (left judge.lines.now) before (contents judge.writer.now) judge.progress.now) later.0 (later.5 input before first) in
    let by_lines = subst (λ lines. AreAt t judging input (left lines) before (contents judge.writer.now) judge.progress.now) (sym (c.lines-1.given.1 (sym later.1))) at in
    let by_writer = subst (λ writer. AreAt t judging input (left c.lines-1.given.0) before (contents writer) judge.progress.now) (sym (c.writer-1.given.1 (sym later.2))) by_lines in
    subst (AreAt t judging input (left c.lines-1.given.0) before (contents c.writer-1.given.0)) (sym (c.progress-1.given.1 (sym later.3))) by_writer
