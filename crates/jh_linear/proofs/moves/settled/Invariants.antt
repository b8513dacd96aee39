use Rattle.jh_linear.specs.SearchInside.{IsNoneSettled}
use Rattle.jh_linear.proofs.moves.settled.Given as goal

abbrev pub invariant-loop-index : goal.invariant-loop-index
invariant-loop-index l = IsNoneSettled l.problem l.config l.index
