-- What the answers of the checker say, and why a given list is no order. All of it is this
-- project's own; what an order is stands in Order.antt.
use Rattle.std.specs.Prelude.{ℕ, ◌<◌, ℤ, Option, List}
use Rattle.jh_linear.specs.declared.order_check.OrderFault.{OrderFault}
use Rattle.jh_linear.specs.declared.order_check.OrderFault.TheVariants.{NoSuch, Repeat, Failed}
use Rattle.jh_linear.specs.declared.order_check.OrderFault.TheVariants.{Missing, Precedence}
use Rattle.jh_linear.specs.declared.order_check.OrderFault.TheVariants.{Illegal}
use Rattle.jh_linear.specs.declared.register.RegOp.{RegOp}
use Rattle.jh_linear.specs.declared.verdict.LinVerdict.{LinVerdict}
use Rattle.jh_linear.specs.declared.verdict.LinVerdict.TheVariants.{Valid, Invalid, Unknown}
use Rattle.jh_linear.specs.Order.{IsOrder, AreThere, HasNoneTwice, ArePossible, HasAllDone}
use Rattle.jh_linear.specs.Order.{KeepsPrecedence, IsLegalFrom}
use Rattle.jh_linear.specs.Reached.{AreReached}
use Rattle.jh_linear.specs.Stuck.{IsStuck}

-- the operations have no linearization
abbrev pub HaveNoOrder : List RegOp → Option ℤ → Type 0
HaveNoOrder ops initial = (order : List ℕ) → IsOrder ops initial order → ⊥

-- Valid: it carries an order. Invalid: there is none, and it says up to which completion there is
-- one. Unknown: it carries as many of the configurations that were reached as the budget. With a
-- budget of 0 the answer is unknown.
abbrev pub IsJudged : List RegOp → Option ℤ → ℕ → LinVerdict → Type 0
IsJudged ops initial budget (Valid order) = (0 < budget) × IsOrder ops initial order
IsJudged ops initial budget (Invalid stuck) =
    (0 < budget) × HaveNoOrder ops initial × IsStuck ops initial stuck
IsJudged ops initial budget (Unknown steps) = AreReached ops initial budget steps

-- Why a list of numbers is refused as an order: the first part of an order that does not hold of
-- it.
abbrev pub RefusesOrder : List RegOp → Option ℤ → List ℕ → OrderFault → Type 0
RefusesOrder ops initial order NoSuch = ¬ AreThere ops order
RefusesOrder ops initial order Repeat = AreThere ops order × (¬ HasNoneTwice order)
RefusesOrder ops initial order Failed =
    AreThere ops order × HasNoneTwice order × (¬ ArePossible ops order)
RefusesOrder ops initial order Missing =
    AreThere ops order × HasNoneTwice order × ArePossible ops order × (¬ HasAllDone ops order)
RefusesOrder ops initial order Precedence =
    AreThere ops order × HasNoneTwice order × ArePossible ops order × HasAllDone ops order
    × (¬ KeepsPrecedence ops order)
RefusesOrder ops initial order Illegal =
    AreThere ops order × HasNoneTwice order × ArePossible ops order × HasAllDone ops order
    × KeepsPrecedence ops order
    × ((last : Option ℤ) → IsLegalFrom ops initial order last → ⊥)
