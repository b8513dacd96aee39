use Rattle.std.proofs.Common.{◌≡◌, ℕ, ◌<◌, Some}
use Rattle.jh_ops.specs.Operation.{operations}
use Rattle.jh_audit.specs.Forms.{named_event_at}
use Rattle.jh_audit.proofs.checks.is_named.Given as goal

-- no operation that was looked at names the event
abbrev pub invariant-loop-earlier : goal.invariant-loop-earlier
invariant-loop-earlier l = (k : ℕ) → k < l.earlier → named_event_at (operations l.history) k ≡ Some l.number → ⊥
