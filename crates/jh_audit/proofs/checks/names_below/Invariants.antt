use Rattle.jh_ops.specs.Operation.{operations}
use Rattle.jh_audit.specs.HorizonInside.{NamesBelow}
use Rattle.jh_audit.proofs.checks.names_below.Given as goal

-- each operation that was looked at names a lower event
abbrev pub invariant-loop-earlier : goal.invariant-loop-earlier
invariant-loop-earlier l = NamesBelow (operations l.history) l.earlier l.number
