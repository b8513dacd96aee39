use Rattle.jh_grudge.specs.Lists.{lists_of}
use Rattle.jh_grudge.proofs.RankLemmas.{IsRanking, IsBelow}
use Rattle.jh_grudge.proofs.grudges.complete_grudge.Given as goal

abbrev pub invariant-loop-number : goal.invariant-loop-number
invariant-loop-number l = IsRanking (IsBelow (lists_of l.components) l.number) l.ranks
