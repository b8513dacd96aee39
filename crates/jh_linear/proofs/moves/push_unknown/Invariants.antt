use Rattle.jh_linear.specs.SearchInside.{HasUnknown, MovesMore}
use Rattle.jh_linear.proofs.moves.push_unknown.Given as goal

abbrev pub invariant-loop-class : goal.invariant-loop-class
invariant-loop-class l = record {
  more : MovesMore l.problem l.config l.fn.moves.items l.moves.items;
  so_far : HasUnknown l.problem l.config l.moves.items l.class;
}
