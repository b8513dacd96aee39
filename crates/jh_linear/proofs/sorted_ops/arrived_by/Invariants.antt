use Rattle.std.proofs.Common.{ℕ, ◌<◌, ◌≤◌, ◌-◌, length, get_or}
use Rattle.jh_linear.specs.SearchInside.{no_entry}
use Rattle.jh_linear.proofs.sorted_ops.arrived_by.Given as goal

abbrev pub invariant-arriving : goal.invariant-arriving
invariant-arriving l = record {
  low : l.arrived ≤ length l.invocations;
  before : (i : ℕ) → i < l.arrived → (get_or l.invocations i no_entry).0 ≤ l.end;
}

abbrev pub decreases-arriving : goal.decreases-arriving
decreases-arriving l = length l.invocations - l.arrived
