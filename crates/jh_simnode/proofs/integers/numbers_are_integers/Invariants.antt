use Rattle.std.proofs.Common.{All, take, FitsSigned, w64}
use Rattle.jh_simnode.proofs.integers.numbers_are_integers.Given as goal

abbrev pub invariant-loop-number : goal.invariant-loop-number
invariant-loop-number l = All (FitsSigned w64) (take l.number-index l.numbers)
