use Rattle.std.proofs.Common.{◌≡◌, take}
use Rattle.jh_unique.specs.Sorted.{seconds_of}
use Rattle.jh_unique.proofs.sorted.sorted_out.Given as goal

abbrev pub invariant-loop-entry : goal.invariant-loop-entry
invariant-loop-entry l = l.numbers.items ≡ seconds_of (take l.entry-index l.entry-items)
