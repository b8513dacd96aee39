use Rattle.std.specs.BTreeMap.{get}
use Rattle.std.specs.Ordering.{int_cmp}
use Rattle.jh_bands.proofs.BandLemmas.{Kept}
use Rattle.jh_bands.proofs.bands.bands_of_changes.Given as goal

abbrev pub invariant-loop-left : goal.invariant-loop-left
invariant-loop-left l = Kept (get int_cmp l.next) l.bands.items l.changes l.left

abbrev pub decreases-loop-left : goal.decreases-loop-left
decreases-loop-left l = l.left
