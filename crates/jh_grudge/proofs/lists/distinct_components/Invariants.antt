use Rattle.std.proofs.Common.{take}
use Rattle.jh_grudge.specs.Lists.{nodes_end_to_end}
use Rattle.jh_grudge.specs.Marks.{AreMetNodes}
use Rattle.jh_grudge.proofs.lists.distinct_components.Given as goal

abbrev pub invariant-loop-component : goal.invariant-loop-component
invariant-loop-component l = AreMetNodes l.seen (nodes_end_to_end (take l.component-index l.components))
