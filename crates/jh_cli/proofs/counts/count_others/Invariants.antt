use Rattle.std.proofs.Common.{◌≡◌, take}
use Rattle.std.specs.Prelude.{count_by}
use Rattle.jh_ops.specs.Operation.{operations}
use Rattle.jh_cli.specs.Counts.{is_other_invocation}
use Rattle.jh_cli.proofs.counts.count_others.Given as goal

-- the operations so far were counted
abbrev pub invariant-loop-op : goal.invariant-loop-op
invariant-loop-op l = l.count ≡ count_by (is_other_invocation l.fn.checker) (operations (take l.op-index l.history))
