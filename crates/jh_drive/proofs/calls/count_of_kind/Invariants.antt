use Rattle.std.proofs.Common.{◌≡◌, take}
use Rattle.std.specs.Prelude.{count_by}
use Rattle.jh_ops.specs.Operation.{operations}
use Rattle.jh_drive.specs.Calls.{is_call_of}
use Rattle.jh_drive.proofs.calls.count_of_kind.Given as goal

-- those so far were counted
abbrev pub invariant-loop-op : goal.invariant-loop-op
invariant-loop-op l = l.count ≡ count_by (is_call_of l.fn.kind) (operations (take l.op-index l.history))
