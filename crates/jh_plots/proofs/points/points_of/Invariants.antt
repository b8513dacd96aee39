use Rattle.std.proofs.Common.{nat_cmp, take}
use Rattle.std.specs.BTreeSet.{contains}
use Rattle.jh_plots.proofs.PointLemmas.{Drawn}
use Rattle.jh_plots.proofs.points.points_of.Given as goal

abbrev pub invariant-loop-call : goal.invariant-loop-call
invariant-loop-call l = Drawn l.scale (take l.call-index l.calls) (contains nat_cmp l.seen) l.points.items
