use Rattle.std.proofs.Common.{ℕ, ◌<◌}
use Rattle.jh_ops.specs.Operation.{operations}
use Rattle.jh_audit.specs.Audit.{HasSameProcess}
use Rattle.jh_audit.proofs.checks.is_not_last.Given as goal

-- no place that was looked at is of the process
abbrev pub invariant-loop-later : goal.invariant-loop-later
invariant-loop-later l = (k : ℕ) → l.place < k → k < l.later → HasSameProcess (operations l.history) k l.place → ⊥
