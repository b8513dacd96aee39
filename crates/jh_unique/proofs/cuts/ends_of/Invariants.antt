use Rattle.jh_unique.proofs.HalvingLemmas.{AreEndsBelow}
use Rattle.jh_unique.proofs.cuts.ends_of.Given as goal

abbrev pub invariant-loop-number : goal.invariant-loop-number
invariant-loop-number l = AreEndsBelow l.ops l.number l.ends.items
