use Rattle.std.proofs.Common.{◌≡◌, take}
use Rattle.jh_edn.specs.View.{views}
use Rattle.jh_timeline_marks.proofs.values.sorted_copies.Given as goal

abbrev pub invariant-loop-value : goal.invariant-loop-value
invariant-loop-value l = views l.copies.items ≡ views (take l.value-index l.values)
