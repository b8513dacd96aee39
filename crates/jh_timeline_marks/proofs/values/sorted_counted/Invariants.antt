use Rattle.std.proofs.Common.{◌≡◌, map, take}
use Rattle.jh_edn.specs.View.{views}
use Rattle.jh_check.specs.Tallies.{view_tally}
use Rattle.jh_timeline_marks.proofs.values.sorted_counted.Given as goal

abbrev pub invariant-loop-counted : goal.invariant-loop-counted
invariant-loop-counted l = views l.copies.items ≡ map (λ id. id.0) (view_tally (take l.counted-index l.tally))
