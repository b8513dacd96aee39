use Rattle.std.proofs.Common.{◌≡◌, ◌∙◌, inr, refl}
use Rattle.jh_drive.specs.declared.error.DriveError.TheVariants.{OutOfMemory}
use Rattle.jh_arguments.proofs.AheadLemmas.{new_left}
use Rattle.jh_arguments.proofs.AnswerLemmas.{never_so}
use Rattle.jh_arguments.proofs.trials.try_test.Goals as goal

pub returns-clause-tried : goal.returns-clause-tried
returns-clause-tried g c =
    let made = c.in-Ok-new.ensures in
    let left = c.new-lines.ensures ∙ new_left (λ r. g.R.Read.remaining r.now) c.in-Ok-new.reader _ made.inner made.empty made.capacity in
    rw c.in-Some.is (inr (c.in-Ok.settings, _, c.in-Ok.ensures, rw left at c.search_drive.ensures.searched))

pub returns-clause-streams_kept : goal.returns-clause-streams_kept
returns-clause-streams_kept g c = λ error is. absurd (never_so c.search_drive.result error (c.search_drive.ensures.taken error) is)

pub returns-in_default-new-clause-tried : goal.returns-in_default-new-clause-tried
returns-in_default-new-clause-tried g c =
    rw c.in-Some.is (inr (c.in-Ok.settings, g.R.Read.remaining c.args.streams.now.reader, c.in-Ok.ensures, inr (inr (OutOfMemory, refl, tt))))
