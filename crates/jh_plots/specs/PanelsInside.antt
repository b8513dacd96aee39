-- What is kept of panels. Proofs rest on it, and no public clause names it.
use Rattle.std.specs.Prelude.{◌≡◌, ℕ, List, [], All, slice_get}
use Rattle.std.specs.List.{AllZip, enumerate_from, range_with_len}
use Rattle.std.specs.Option.{option_map_or}
use Rattle.jh_edn.specs.Edn.{Edn}
use Rattle.jh_edn.specs.Print.{print}
use Rattle.jh_plots.specs.Panels.{IsPanelOf, own_calls}
use Rattle.jh_plots.specs.RatesInside.{AreAllOnAxis}
use Rattle.jh_plots.specs.ScaleInside.{IsPlotted}
use Rattle.jh_plots.specs.Rates.{counts_of}
use Rattle.jh_plots.specs.declared.calls.TimedCall.{TimedCall}
use Rattle.jh_plots.specs.declared.panels.Group.{Group}
use Rattle.jh_plots.specs.declared.plot.Panel.{Panel}
use Rattle.jh_plots.specs.declared.scale.Scale.{Scale}

-- the calls of a panel, with the counts of their windows
pub record IsGroupOf (end : ℕ) (calls : List TimedCall) (panel : ℕ) (group : Group) : Type 0 where
  pub own : group.calls.items ≡ own_calls calls panel
  pub counts : group.counts.items ≡ counts_of end (own_calls calls panel)

abbrev pub AreGroupsOf : ℕ → List TimedCall → ℕ → List Group → Type 0
AreGroupsOf end calls panels groups =
    AllZip (IsGroupOf end calls) (range_with_len 0 panels) groups

-- the calls of a panel and their counts are on the axes
pub record IsGroupPlotted (scale : Scale) (group : Group) : Type 0 where
  pub calls : All (IsPlotted scale) group.calls.items
  pub counts : AreAllOnAxis scale group.counts.items

-- the printed name of a function
abbrev pub name_at : List (ℕ × Edn) → ℕ → List ℕ
name_at functions number =
    option_map_or (λ function. print function.1) (slice_get functions number) []

-- a panel for each group, by their numbers
abbrev pub ArePanelsOfGroups : Scale → List (ℕ × Edn) → List Group → List Panel → Type 0
ArePanelsOfGroups scale functions groups panels =
    AllZip (λ numbered. IsPanelOf scale functions numbered.0 numbered.1.calls.items)
    (enumerate_from 0 groups) panels
