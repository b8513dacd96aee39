use Rattle.std.proofs.Common.{◌≡◌, ◌∙◌, inr}
use Rattle.jh_arguments.proofs.AheadLemmas.{new_left}
use Rattle.jh_arguments.proofs.AnswerLemmas.{never_so}
use Rattle.jh_arguments.proofs.trials.reduce_test.Goals as goal

pub returns-clause-reduced : goal.returns-clause-reduced
returns-clause-reduced g c =
    let made = c.in-Ok-new.ensures in
    let left = c.new-lines.ensures ∙ new_left (λ r. g.R.Read.remaining r.now) c.in-Ok-new.reader _ made.inner made.empty made.capacity in
    inr (c.in-Ok.settings, _, c.in-Ok.ensures, rw left at c.shrink_drive.ensures.shrunk)

pub returns-clause-streams_kept : goal.returns-clause-streams_kept
returns-clause-streams_kept g c = λ error is. absurd (never_so c.shrink_drive.result error (c.shrink_drive.ensures.taken error) is)
