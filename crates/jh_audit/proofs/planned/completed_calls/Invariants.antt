use Rattle.std.proofs.Common.{◌≡◌, take}
use Rattle.std.specs.List.{count_by}
use Rattle.jh_ops.specs.Operation.{operations}
use Rattle.jh_audit.specs.Plans.{is_answered_call}
use Rattle.jh_audit.proofs.planned.completed_calls.Given as goal

-- the completions of clients so far were counted
abbrev pub invariant-loop-op : goal.invariant-loop-op
invariant-loop-op l = l.answered ≡ count_by is_answered_call (operations (take l.op-index l.history))
