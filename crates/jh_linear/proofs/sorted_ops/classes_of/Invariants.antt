use Rattle.std.proofs.Common.{◌+◌, ◌<◌, ◌≤◌, length}
use Rattle.jh_linear.specs.SearchInside.{AreClassesUpTo}
use Rattle.jh_linear.proofs.SortedLemmas.{AreTogether}
use Rattle.jh_linear.proofs.sorted_ops.classes_of.Given as goal

abbrev pub invariant-loop-index : goal.invariant-loop-index
invariant-loop-index l = record {
  runs : AreClassesUpTo l.entries l.classes.items l.from;
  low : l.from ≤ l.index;
  open' : l.index < length l.entries → AreTogether l.entries l.from (l.index + 1);
  closed : length l.entries ≤ l.index → length l.entries ≤ l.from;
}
