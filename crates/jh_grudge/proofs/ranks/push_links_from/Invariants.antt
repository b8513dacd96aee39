use Rattle.jh_grudge.specs.Ranks.{AreLinksBefore, drops_in}
use Rattle.jh_grudge.proofs.ranks.push_links_from.Given as goal

abbrev pub invariant-loop-dst : goal.invariant-loop-dst
invariant-loop-dst l = AreLinksBefore (drops_in l.rule l.ranks) l.links.items (l.src, l.dst)
