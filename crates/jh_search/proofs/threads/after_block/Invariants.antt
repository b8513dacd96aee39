use Rattle.std.proofs.Common.{◌≡◌, ◌+◌}
use Rattle.jh_search.specs.SearchInside.{GoesOn, HasTried}
use Rattle.jh_search.proofs.threads.after_block.Given as goal

abbrev pub invariant-loop-answer : goal.invariant-loop-answer
invariant-loop-answer l = record {
  tried : HasTried l.plan l.options l.next.tried l.next.unknown;
  far : l.next.tried ≡ l.fn.progress.tried + l.answer-index;
  goes_on : GoesOn l.fn.answers l.answer-index;
}
