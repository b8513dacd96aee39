use Rattle.std.proofs.Common.{◌≡◌, length}
use Rattle.jh_grudge.proofs.RankLemmas.{IsRanking, StandsBelow}
use Rattle.jh_grudge.proofs.grudges.majorities_ring.Given as goal

abbrev pub invariant-loop-place : goal.invariant-loop-place
invariant-loop-place l = record { ranking : IsRanking (StandsBelow l.nodes l.place) l.ranks; long : length l.ranks ≡ 256 }
