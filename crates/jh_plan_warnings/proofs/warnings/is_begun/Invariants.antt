use Rattle.std.proofs.Common.{◌≡◌, drop}
use Rattle.jh_plan_warnings.specs.Warnings.{is_begun}
use Rattle.jh_plan_warnings.proofs.warnings.is_begun.Given as goal

-- none so far begins it
abbrev pub invariant-loop-entry : goal.invariant-loop-entry
invariant-loop-entry l = is_begun l.id l.entries ≡ is_begun l.id (drop l.entry-index l.entries)
