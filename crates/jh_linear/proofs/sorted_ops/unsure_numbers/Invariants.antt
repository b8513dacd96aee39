use Rattle.std.proofs.Common.{◌≡◌, map, take}
use Rattle.jh_linear.proofs.sorted_ops.unsure_numbers.Given as goal

abbrev pub invariant-loop-entry : goal.invariant-loop-entry
invariant-loop-entry l = l.numbers.items ≡ map (λ x. x.2) (take l.entry-index l.entries)
