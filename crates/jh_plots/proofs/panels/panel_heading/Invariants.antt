use Rattle.std.proofs.Common.{◌≡◌, ◌++◌, ◌-◌, drop, take}
use Rattle.std.specs.Prelude.{codes}
use Rattle.std.specs.List.{flat_map}
use Rattle.jh_edn.specs.Print.{print}
use Rattle.jh_plots.specs.PanelsInside as inside
use Rattle.jh_plots.proofs.panels.panel_heading.Given as goal

abbrev pub invariant-loop-number : goal.invariant-loop-number
invariant-loop-number l = l.heading.items ≡ inside.name_at l.functions 7 ++ flat_map (λ function. codes "," ++ print function.1) (take (l.number - 8) (drop 8 l.functions))
