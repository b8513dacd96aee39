use Rattle.jh_histories.specs.HistoryAndBelow.{active}
use Rattle.jh_histories.proofs.FirstLineLemmas.{behind_feed}
use Rattle.jh_histories.proofs.below.active_line_at.Goals as goal

pub returns-in-Some-clause-place : goal.returns-in-Some-clause-place
returns-in-Some-clause-place c =
    let found = c.in-Some.ensures.cases in
    behind_feed active c.args.text.now c.in-Some.before found.0 c.if-starts_with.ensures.cases found.1.0 found.1.1
