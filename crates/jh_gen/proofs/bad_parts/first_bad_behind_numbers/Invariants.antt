use Rattle.std.proofs.Common.{length}
use Rattle.jh_gen.proofs.BadLemmas.{Searched}
use Rattle.jh_gen.proofs.bad_parts.first_bad_behind_numbers.Given as goal

abbrev pub invariant-loop-rest : goal.invariant-loop-rest
invariant-loop-rest l = Searched l.parts l.rest l.before

abbrev pub decreases-loop-rest : goal.decreases-loop-rest
decreases-loop-rest l = length l.rest
