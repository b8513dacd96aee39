use Rattle.std.proofs.Common.{All, length, take}
use Rattle.jh_nemesis.specs.Steps.{FitsNodes}
use Rattle.jh_test_parts.proofs.test.all_fit.Given as goal

abbrev pub invariant-loop-entry : goal.invariant-loop-entry
invariant-loop-entry l = All (λ entry. FitsNodes (length l.environment.names) entry.step) (take l.entry-index l.schedule)
