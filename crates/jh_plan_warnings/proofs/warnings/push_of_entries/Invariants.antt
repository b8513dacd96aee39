use Rattle.std.proofs.Common.{◌≡◌, ◌++◌}
use Rattle.jh_plan_warnings.specs.Warnings.{of_entries_before}
use Rattle.jh_plan_warnings.proofs.warnings.push_of_entries.Given as goal

-- what is warned of the entries so far
abbrev pub invariant-loop-place : goal.invariant-loop-place
invariant-loop-place l = l.warnings.items ≡ l.fn.warnings.items ++ of_entries_before l.entries l.place
