use Rattle.jh_linear.specs.WantedInside.{HoldsMore, HoldsUnknown}
use Rattle.jh_linear.proofs.wanted.put_unknown.Given as goal

abbrev pub invariant-loop-class : goal.invariant-loop-class
invariant-loop-class l = record {
  so_far : HoldsUnknown l.problem l.config l.wanted l.class;
  more : HoldsMore l.fn.wanted l.wanted;
}
