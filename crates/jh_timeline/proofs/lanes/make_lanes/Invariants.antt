use Rattle.std.proofs.Common.{◌≡◌, ℕ, ◌+◌, ◌-◌, length}
use Rattle.jh_timeline.specs.Lanes.{lane_clients}
use Rattle.jh_timeline.proofs.lanes.make_lanes.Given as goal

abbrev pub invariant-missing : goal.invariant-missing
invariant-missing l = (other : ℕ) → lane_clients other l.lanes.items ≡ lane_clients other l.fn.lanes.items

abbrev pub decreases-missing : goal.decreases-missing
decreases-missing l = l.lane + 1 - length l.lanes.items
