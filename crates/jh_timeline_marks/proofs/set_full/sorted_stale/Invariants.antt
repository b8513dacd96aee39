use Rattle.std.proofs.Common.{◌≡◌, map, take}
use Rattle.jh_edn.specs.View.{views}
use Rattle.jh_set_full.specs.StaleView.{view_stales}
use Rattle.jh_timeline_marks.proofs.set_full.sorted_stale.Given as goal

abbrev pub invariant-loop-stale : goal.invariant-loop-stale
invariant-loop-stale l = views l.copies.items ≡ map (λ one. one.0) (view_stales (take l.stale-index l.stales))
