use Rattle.std.proofs.Common.{◌≡◌, ◌≤◌, ◌<◌, ◌+◌, ◌-◌, false, true, length}
use Rattle.jh_shrink.specs.Shrunk.{IsFailing}
use Rattle.jh_shrink.specs.ShrinkingInside.{AskedSince, NeedsThose}
use Rattle.jh_shrink.proofs.shrinking.pass.Given as goal

-- what is left fails, and while nothing was taken out each part so far is needed
abbrev pub invariant-loop-place : goal.invariant-loop-place
invariant-loop-place g l = record {
  failing : IsFailing (g.J.ScheduleJudge.has_answered l.judge) l.fn.schedule l.schedule;
  within : l.place ≤ length l.schedule;
  fewer : l.spared ≡ true → length l.schedule < length l.fn.schedule;
  same : l.spared ≡ false → l.schedule ≡ l.fn.schedule;
  needed : l.spared ≡ false → l.size ≡ 1 → NeedsThose (g.J.ScheduleJudge.has_answered l.judge) l.schedule l.place;
  asked : l.spared ≡ false → l.size ≡ 1 → l.meter.left + l.place ≤ l.fn.meter.left;
  went_on : AskedSince g.J.ScheduleJudge.is_ready g.J.ScheduleJudge.becomes g.J.ScheduleJudge.asked l.fn.judge l.fn.meter.left l.judge l.meter.left;
}

abbrev pub decreases-loop-place : goal.decreases-loop-place
decreases-loop-place g l = length l.schedule - l.place
