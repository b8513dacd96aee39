use Rattle.jh_linear.specs.SearchInside.{HasHappened, MovesMore}
use Rattle.jh_linear.proofs.moves.push_happened.Given as goal

abbrev pub invariant-loop-index : goal.invariant-loop-index
invariant-loop-index l = record {
  more : MovesMore l.problem l.config l.fn.moves.items l.moves.items;
  so_far : HasHappened l.problem l.config l.moves.items l.index;
}
