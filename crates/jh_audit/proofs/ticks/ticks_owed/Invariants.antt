use Rattle.std.proofs.Common.{◌≡◌, ◌≤◌, ◌*◌, ◌^◌}
use Rattle.std.specs.List.{range_with_len, sum_by}
use Rattle.jh_audit.specs.Plans.{ticks_of}
use Rattle.jh_audit.proofs.ticks.ticks_owed.Given as goal

-- the ticks of the threads so far were added
abbrev pub invariant-loop-thread : goal.invariant-loop-thread
invariant-loop-thread l = record {
  owed : l.owed ≡ sum_by (ticks_of l.plan l.journal) (range_with_len 0 l.thread);
  few : l.owed ≤ 2 ^ 64 * l.thread;
}
