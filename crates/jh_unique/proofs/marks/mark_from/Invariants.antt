use Rattle.jh_unique.proofs.MarkLemmas.{unmarked, IsMarking}
use Rattle.jh_unique.proofs.marks.mark_from.Given as goal

abbrev pub invariant-marking : goal.invariant-marking
invariant-marking l = IsMarking l.ops l.fn.there.items l.number l.there.items l.at

abbrev pub decreases-marking : goal.decreases-marking
decreases-marking l = unmarked l.there.items
