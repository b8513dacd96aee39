use Rattle.jh_unique.specs.Sorted.{AreKeyedNumbers, HasInvocation}
use Rattle.jh_unique.proofs.sorted.invocations.Given as goal

abbrev pub invariant-loop-number : goal.invariant-loop-number
invariant-loop-number l = AreKeyedNumbers (HasInvocation l.ops) 0 l.number l.entries.items
