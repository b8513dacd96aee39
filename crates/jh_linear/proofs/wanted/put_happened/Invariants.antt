use Rattle.jh_linear.specs.WantedInside.{HoldsHappened, HoldsMore}
use Rattle.jh_linear.proofs.wanted.put_happened.Given as goal

abbrev pub invariant-loop-index : goal.invariant-loop-index
invariant-loop-index l = record {
  so_far : HoldsHappened l.problem l.config l.wanted l.index;
  more : HoldsMore l.fn.wanted l.wanted;
}
