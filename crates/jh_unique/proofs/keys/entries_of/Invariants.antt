use Rattle.jh_unique.specs.Keys.{HasClusterKey}
use Rattle.jh_unique.specs.Lists.{members_in}
use Rattle.jh_unique.specs.Sorted.{AreKeyedNumbers}
use Rattle.jh_unique.proofs.keys.entries_of.Given as goal

abbrev pub invariant-loop-cluster : goal.invariant-loop-cluster
invariant-loop-cluster l = AreKeyedNumbers (HasClusterKey l.ops (members_in l.lists)) 1 l.cluster l.entries.items
