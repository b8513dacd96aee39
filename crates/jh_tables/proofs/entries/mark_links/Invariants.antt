use Rattle.std.proofs.Common.{take}
use Rattle.jh_tables.specs.ChangingInside.{AreMarked}
use Rattle.jh_tables.proofs.entries.mark_links.Given as goal

abbrev pub invariant-loop-from : goal.invariant-loop-from
invariant-loop-from l = AreMarked (take l.from-index l.links) l.fn.words l.words
