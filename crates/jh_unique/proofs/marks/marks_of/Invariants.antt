use Rattle.std.proofs.Common.{◌≡◌, ℕ, ◌<◌, length}
use Rattle.jh_linear.specs.Order.{IsDone}
use Rattle.jh_unique.specs.Marks.{IsMarkedThere, MarkOnlyNeeded, MarkWriters}
use Rattle.jh_unique.proofs.marks.marks_of.Given as goal

abbrev pub invariant-loop-number : goal.invariant-loop-number
invariant-loop-number l = record {
  count : length l.there.items ≡ length l.ops;
  sound : MarkOnlyNeeded l.ops l.there.items;
  closed : MarkWriters l.ops l.there.items;
  each : (k : ℕ) → k < l.number → IsDone l.ops k → IsMarkedThere l.there.items k;
}
