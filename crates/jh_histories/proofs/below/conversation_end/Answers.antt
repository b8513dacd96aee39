use Rattle.std.proofs.Common.{◌≡◌, ◌+◌, ap, arith, drop, inr}
use Rattle.std.proofs.lemmas.Str.{IsCharBoundary-start}
use Rattle.jh_histories.specs.HistoryAndBelow.{conversation_end}
use Rattle.jh_histories.proofs.FirstLineLemmas.{behind_feed}
use Rattle.jh_histories.proofs.below.conversation_end.Goals as goal

pub returns-in-Some-clause-place : goal.returns-in-Some-clause-place
returns-in-Some-clause-place c =
    let text = c.args.text.now in
    let before = c.in-Some.before in
    let found = c.in-Some.ensures.cases in
    let same : before + 6 ≡ before + 1 + 5 = omega arith in
    inr (
      before + 1,
      behind_feed conversation_end text before found.0 c.if-starts_with.ensures.cases found.1.0 found.1.1,
      ap (λ n. drop n text) same,
    )

pub returns-in-None-clause-boundary : goal.returns-in-None-clause-boundary
returns-in-None-clause-boundary c = IsCharBoundary-start c.args.text.now c.utf8.text
