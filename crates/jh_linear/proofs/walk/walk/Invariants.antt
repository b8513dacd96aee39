use Rattle.jh_linear.specs.SearchInside.{HasGone}
use Rattle.jh_linear.proofs.walk.walk.Given as goal

abbrev pub invariant-loop : goal.invariant-loop
invariant-loop l = HasGone l.problem l.fn.config l.fn.placed.items l.config l.placed.items
