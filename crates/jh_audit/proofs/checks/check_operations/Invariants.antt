use Rattle.jh_ops.specs.Operation.{operations}
use Rattle.jh_audit.specs.Audit.{AreSoundBelow}
use Rattle.jh_audit.specs.HorizonInside.{IsBehind}
use Rattle.jh_audit.proofs.checks.check_operations.Given as goal

-- each operation that was looked at is sound
abbrev pub invariant-loop-place : goal.invariant-loop-place
invariant-loop-place l = record {
  sound : AreSoundBelow l.journal (operations l.history) l.place;
  behind : IsBehind (operations l.history) l.horizon;
}
