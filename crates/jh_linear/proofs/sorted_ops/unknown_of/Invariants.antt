use Rattle.jh_linear.specs.SearchInside.{AreNumberEntries, IsUnsureChange, unknown_entry}
use Rattle.jh_linear.proofs.sorted_ops.unknown_of.Given as goal

abbrev pub invariant-loop-number : goal.invariant-loop-number
invariant-loop-number l = AreNumberEntries (IsUnsureChange l.ops) (unknown_entry l.ops) (λ x. x.2) l.number l.unknown.items
