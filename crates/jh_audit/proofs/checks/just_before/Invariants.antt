use Rattle.std.proofs.Common.{ℕ, ◌+◌, ◌<◌, ◌≤◌}
use Rattle.jh_ops.specs.Operation.{operations}
use Rattle.jh_audit.specs.Audit.{HasSameProcess}
use Rattle.jh_audit.proofs.checks.just_before.Given as goal

-- no place that was looked at is of the process
abbrev pub invariant-loop-back : goal.invariant-loop-back
invariant-loop-back l = (m : ℕ) → l.place ≤ m + l.back → m < l.place → HasSameProcess (operations l.history) m l.place → ⊥
