use Rattle.std.proofs.Common.{List, ℕ, ◌++◌, take}
use Rattle.jh_grudge.specs.Marks.{AreMetNodes}
use Rattle.jh_grudge.proofs.lists.mark_new.Given as goal

abbrev pub invariant-loop-node : goal.invariant-loop-node
invariant-loop-node l = (before : List ℕ) → AreMetNodes l.fn.seen before → AreMetNodes l.seen (before ++ take l.node-index l.nodes)
