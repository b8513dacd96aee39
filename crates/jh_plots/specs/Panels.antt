-- Panels: one for each function of clients' calls, and one for the rest where there are many (this
-- project's own).
use Rattle.std.specs.Prelude.{◌≡◌, ℕ, ◌==◌, min, List, filter, length, take, drop, if◌then◌else◌}
use Rattle.std.specs.Prelude.{codes}
use Rattle.std.specs.List.{AllZip, join_by, range_with_len}
use Rattle.jh_edn.specs.Edn.{Edn}
use Rattle.jh_edn.specs.Print.{print}
use Rattle.jh_plots.specs.Percentiles.{ArePercentilesOf}
use Rattle.jh_plots.specs.Points.{ArePointsOf}
use Rattle.jh_plots.specs.Rates.{rates_of}
use Rattle.jh_plots.specs.declared.calls.TimedCall.{TimedCall}
use Rattle.jh_plots.specs.declared.plot.Panel.{Panel}
use Rattle.jh_plots.specs.declared.scale.Scale.{Scale}

abbrev pub MAX_PANELS : ℕ
MAX_PANELS = 8

-- the last panel, which has all functions from its own number on
abbrev pub last_panel : ℕ
last_panel = 7

-- the panel of a function, by their numbers
abbrev pub panel_of : ℕ → ℕ
panel_of function = min function last_panel

-- how many panels so many functions have
abbrev pub panels_for : ℕ → ℕ
panels_for functions = min functions MAX_PANELS

-- the calls of a panel, in order
abbrev pub own_calls : List TimedCall → ℕ → List TimedCall
own_calls calls panel = filter (λ call. panel_of call.function == panel) calls

-- the functions of a panel, in order
abbrev pub own_functions : List (ℕ × Edn) → ℕ → List (ℕ × Edn)
own_functions functions panel =
    if panel == last_panel then drop panel functions else take 1 (drop panel functions)

-- their names as they are printed, with a comma between each two
abbrev pub panel_heading : List (ℕ × Edn) → ℕ → List ℕ
panel_heading functions panel =
    join_by (λ function. print function.1) (codes ",") (own_functions functions panel)

-- the panel of a number, which has these calls
pub record IsPanelOf (scale : Scale) (functions : List (ℕ × Edn)) (number : ℕ)
    (own : List TimedCall) (panel : Panel) : Type 0 where
  pub heading : panel.heading.items ≡ panel_heading functions number
  pub calls : panel.calls ≡ length own
  pub points : ArePointsOf scale own panel.points.items
  pub percentiles : ArePercentilesOf scale own panel.percentiles.items
  pub rates : panel.rates.items ≡ rates_of scale own

-- a panel for each number, in order
abbrev pub ArePanelsOf : Scale → List (ℕ × Edn) → List TimedCall → List Panel → Type 0
ArePanelsOf scale functions calls panels =
    AllZip (λ number. IsPanelOf scale functions number (own_calls calls number))
    (range_with_len 0 (panels_for (length functions))) panels
