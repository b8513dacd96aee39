use Rattle.jh_linear.specs.Order.{IsDone}
use Rattle.jh_linear.specs.SearchInside.{AreNumberEntries, arrival_entry}
use Rattle.jh_linear.proofs.sorted_ops.arrivals_of.Given as goal

abbrev pub invariant-loop-number : goal.invariant-loop-number
invariant-loop-number l = AreNumberEntries (IsDone l.ops) (arrival_entry l.ops) (λ x. x.1) l.number l.arrivals.items
