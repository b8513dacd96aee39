use Rattle.std.proofs.Common.{nat_cmp, take}
use Rattle.std.specs.BTreeSet.{contains}
use Rattle.jh_timeline.proofs.LaneApartLemmas.{Listed}
use Rattle.jh_timeline.proofs.lanes.lanes_of.Given as goal

abbrev pub invariant-loop-bar : goal.invariant-loop-bar
invariant-loop-bar l = Listed (contains nat_cmp l.seen) l.lanes.items (take l.bar-index l.bars)
