use Rattle.std.proofs.Common.{◌≡◌, map, take}
use Rattle.jh_plots.specs.Rates as rates
use Rattle.jh_plots.specs.Times.{greatest}
use Rattle.jh_plots.proofs.plotted.most_in.Given as goal

abbrev pub invariant-loop-group : goal.invariant-loop-group
invariant-loop-group l = l.most ≡ greatest (map (λ group. rates.most_of group.counts.items) (take l.group-index l.groups))
