use Rattle.std.specs.List.{All}
use Rattle.jh_plots.specs.PanelsInside.{AreGroupsOf}
use Rattle.jh_plots.specs.RatesInside.{AreSmallCounts}
use Rattle.jh_plots.proofs.panels.groups_of.Given as goal

abbrev pub invariant-loop-panel : goal.invariant-loop-panel
invariant-loop-panel l = record {
  groups : AreGroupsOf l.end l.calls l.panel l.groups.items;
  few : All (λ group. All AreSmallCounts group.counts.items) l.groups.items;
}
