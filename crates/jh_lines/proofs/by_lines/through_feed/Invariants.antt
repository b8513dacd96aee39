use Rattle.jh_lines.proofs.ByLinesLemmas.{HasNoFeedBefore}
use Rattle.jh_lines.proofs.by_lines.through_feed.Given as goal

abbrev pub invariant-loop-place : goal.invariant-loop-place
invariant-loop-place l = HasNoFeedBefore l.place l.bytes
