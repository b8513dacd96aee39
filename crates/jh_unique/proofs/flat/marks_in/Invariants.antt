use Rattle.std.proofs.Common.{take}
use Rattle.jh_unique.specs.Marks.{AreMarksOfList}
use Rattle.jh_unique.proofs.flat.marks_in.Given as goal

abbrev pub invariant-loop-number : goal.invariant-loop-number
invariant-loop-number l = AreMarksOfList l.count (take l.number-index l.flat) l.marks.items
