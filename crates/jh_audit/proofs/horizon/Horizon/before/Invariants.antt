use Rattle.jh_ops.specs.Operation.{operations}
use Rattle.jh_audit.specs.HorizonInside.{IsBehind}
use Rattle.jh_audit.proofs.horizon.Horizon.before.Given as goal

-- the horizon stays behind
abbrev pub invariant-loop : goal.invariant-loop
invariant-loop l = IsBehind (operations l.history) l.horizon
