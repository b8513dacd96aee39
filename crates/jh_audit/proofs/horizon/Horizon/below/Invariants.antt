use Rattle.std.proofs.Common.{◌-◌, ◌≤◌, length}
use Rattle.jh_ops.specs.Operation.{operations}
use Rattle.jh_audit.specs.HorizonInside.{NamesBelow}
use Rattle.jh_audit.proofs.horizon.Horizon.below.Given as goal

-- the operations so far name lower events
abbrev pub invariant-loop-place : goal.invariant-loop-place
invariant-loop-place l = record {
  within : l.place ≤ length l.history;
  low : NamesBelow (operations l.history) l.place l.number;
}

-- how many operations are left
abbrev pub decreases-loop-place : goal.decreases-loop-place
decreases-loop-place l = length l.history - l.place
