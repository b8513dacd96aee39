use Rattle.std.proofs.Common.{◌≡◌, take}
use Rattle.std.specs.Prelude.{count_by}
use Rattle.jh_ops.specs.Operation.{operations}
use Rattle.jh_ops.specs.declared.operation.Kind.{Kind}
use Rattle.jh_cli.specs.Enough.{is_judged}
use Rattle.jh_cli.proofs.counts.count_judged.Given as goal

-- the operations so far were counted
abbrev pub invariant-loop-op : goal.invariant-loop-op
invariant-loop-op l = l.count ≡ count_by (is_judged l.fn.checker Kind.Invoke) (operations (take l.op-index l.history))
