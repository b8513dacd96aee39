use Rattle.std.proofs.Common.{◌≤◌}
use Rattle.jh_ops.specs.Operation.{operations}
use Rattle.jh_audit.specs.Audit.{AreNamed}
use Rattle.jh_audit.specs.HorizonInside.{IsBehind}
use Rattle.jh_audit.proofs.checks.first_unnamed.Given as goal

-- each event that was looked at is named where it must be, and the horizon is below the next
abbrev pub invariant-loop-number : goal.invariant-loop-number
invariant-loop-number l = record {
  named : AreNamed l.journal (operations l.history) l.number;
  behind : IsBehind (operations l.history) l.horizon;
  low : l.horizon.bound ≤ l.number;
}
