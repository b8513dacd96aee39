use Rattle.std.proofs.Common.{take}
use Rattle.jh_grudge.proofs.RankLemmas.{AreRanked}
use Rattle.jh_grudge.proofs.ranks.rank_all.Given as goal

abbrev pub invariant-loop-node : goal.invariant-loop-node
invariant-loop-node l = AreRanked l.fn.ranks l.ranks (take l.node-index l.nodes) l.rank
