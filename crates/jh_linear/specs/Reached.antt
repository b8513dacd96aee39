-- What the checker gives where its budget was used up: steps, each of which stands for an order in
-- which some of the operations can have happened. All of it is this project's own; what an order is
-- stands in Order.antt.
use Rattle.std.specs.Prelude.{◌≡◌, ◌<◌, ℕ, ℤ, Option, List, [], ◌∷◌, ◌++◌, length, slice_index_or}
use Rattle.jh_linear.specs.declared.register.RegOp.{RegOp}
use Rattle.jh_linear.specs.declared.verdict.Step.{Step}
use Rattle.jh_linear.specs.Order.{IsPartialOrder, has}

-- The orders that steps stand for, behind those of earlier steps that are known. That of a step is
-- the order of the earlier step that it names, with its own numbers behind.
abbrev pub orders_from : List (List ℕ) → List Step → List (List ℕ)
orders_from known [] = known
orders_from known (step ∷ steps) =
    orders_from (known ++ (slice_index_or known step.parent [] ++ step.placed) ∷ []) steps

-- The orders that all steps stand for. That of the first step is empty.
abbrev pub orders_of : List Step → List (List ℕ)
orders_of [] = []
orders_of (first ∷ steps) = orders_from ([] ∷ []) steps

-- the order that the step at an index stands for
abbrev pub order_at : List Step → ℕ → List ℕ
order_at steps i = slice_index_or (orders_of steps) i []

-- the first step of all, which stands for the empty order
abbrev pub root : Step
root = record { parent = 0; placed = [] }

-- each step but the first names an earlier one
abbrev pub NameEarlier : List Step → Type 0
NameEarlier steps = (i : ℕ) → 0 < i → i < length steps → (slice_index_or steps i root).parent < i

-- There are as many steps as the budget. They stand for partial orders, no two of which have the
-- same numbers and the same last value.
pub record AreReached (ops : List RegOp) (initial : Option ℤ) (budget : ℕ)
    (steps : List Step) : Type 0 where
  pub count : length steps ≡ budget
  pub begins : 0 < length steps → slice_index_or steps 0 root ≡ root
  pub earlier : NameEarlier steps
  pub partial : (i : ℕ) → i < length steps → (last : Option ℤ)
      × IsPartialOrder ops initial (order_at steps i) last
  pub apart : (i j : ℕ) (last : Option ℤ) → i < j → j < length steps
      → IsPartialOrder ops initial (order_at steps i) last
      → IsPartialOrder ops initial (order_at steps j) last
      → ((number : ℕ) → has (order_at steps i) number ≡ has (order_at steps j) number) → ⊥
