use Rattle.jh_grudge.specs.Ranks.{AreLinksBefore, drops_in}
use Rattle.jh_grudge.proofs.ranks.links_by.Given as goal

abbrev pub invariant-loop-src : goal.invariant-loop-src
invariant-loop-src l = AreLinksBefore (drops_in l.rule l.ranks) l.links.items (l.src, 0)
