use Rattle.std.proofs.Common.{◌≤◌, ◌+◌, length}
use Rattle.jh_simnode.specs.Limits.{max_entries}
use Rattle.jh_shrink.specs.Shrunk.{IsFailing}
use Rattle.jh_shrink.specs.ShrinkingInside.{AskedSince}
use Rattle.jh_shrink.proofs.shrinking.reduce.Given as goal

-- what is left fails
abbrev pub invariant-loop-size : goal.invariant-loop-size
invariant-loop-size g l = record {
  failing : IsFailing (g.J.ScheduleJudge.has_answered l.judge) l.fn.schedule l.schedule;
  some : 1 ≤ l.size;
  few : l.size ≤ max_entries;
  fewer : l.meter.left ≤ l.fn.meter.left;
  went_on : AskedSince g.J.ScheduleJudge.is_ready g.J.ScheduleJudge.becomes g.J.ScheduleJudge.asked l.fn.judge l.fn.meter.left l.judge l.meter.left;
}

-- a pass takes an entry out, or the parts become smaller
abbrev pub decreases-loop-size : goal.decreases-loop-size
decreases-loop-size g l = l.size + length l.schedule
