use Rattle.std.proofs.Common.{ap, inr}
use Rattle.jh_arguments.proofs.AnswerLemmas.{left_so}
use Rattle.jh_arguments.proofs.answers.answer_test.Goals as goal

pub returns-in_ok-settings-in-Conduct-clause-ended : goal.returns-in_ok-settings-in-Conduct-clause-ended
returns-in_ok-settings-in-Conduct-clause-ended g c = rw c.in-Conduct.is (inr (_, c.drive.ensures.driven))

pub returns-in_ok-settings-in-Conduct-clause-streams_kept : goal.returns-in_ok-settings-in-Conduct-clause-streams_kept
returns-in_ok-settings-in-Conduct-clause-streams_kept g c = λ error is.
    let same = left_so c.drive.result c.args.streams.now c.drive.new.streams c.drive.ensures.unread error is in
    (ap (λ s. s.reader) same, ap (λ s. s.writer) same)

pub returns-in_ok-settings-in-Reduce-clause-ended : goal.returns-in_ok-settings-in-Reduce-clause-ended
returns-in_ok-settings-in-Reduce-clause-ended g c = rw c.in-Reduce.is (inr (_, c.reduce_test.ensures.reduced))
