use Rattle.std.proofs.Common.{◌-◌, ◌≤◌}
use Rattle.jh_search.specs.SearchInside.{HasTried}
use Rattle.jh_search.proofs.threads.search.Given as goal

abbrev pub invariant-loop-progress : goal.invariant-loop-progress
invariant-loop-progress g l = record {
  tried : HasTried l.plan l.options l.progress.tried l.progress.unknown;
  within : l.progress.tried ≤ l.options.runs;
}

abbrev pub decreases-loop-progress : goal.decreases-loop-progress
decreases-loop-progress g l = l.options.runs - l.progress.tried
