-- The value that is written of a step (this project's own): the steps of specs/StepText, a fault
-- that was named by a grudge as the cut that it is, links and nodes by place.
use Rattle.std.specs.Prelude.{ℕ, pos, List, [], ◌∷◌, codes}
use Rattle.jh_edn.specs.Edn.{Edn, int, keyword, vector, items_of}
use Rattle.jh_env.specs.FaultOrder.{fault_in_order}
use Rattle.jh_step_texts.specs.FaultWritten.{edn_of_fault}
use Rattle.jh_nemesis.specs.declared.steps.Step.{Step}
use Rattle.jh_nemesis.specs.declared.steps.Step.TheVariants.{Begin, Withdraw, WithdrawAll, Undo}
use Rattle.jh_nemesis.specs.declared.steps.Step.TheVariants.{Redo}

-- what stands in the value
abbrev pub step_values : List (List ℕ) → Step → List Edn
step_values names (Begin id fault) =
    keyword (codes "begin") ∷ int (pos id) ∷ edn_of_fault names fault ∷ []
step_values names (Withdraw id) = keyword (codes "withdraw") ∷ int (pos id) ∷ []
step_values names WithdrawAll = keyword (codes "withdraw-all") ∷ []
step_values names Undo = keyword (codes "undo") ∷ []
step_values names Redo = keyword (codes "redo") ∷ []

-- the value that spells a step over nodes of these names
abbrev pub edn_of_step : List (List ℕ) → Step → Edn
edn_of_step names step = vector (items_of (step_values names step))

-- the same step, with the links, nodes or bumps of its fault in order
abbrev pub step_in_order : Step → Step
step_in_order (Begin id fault) = Begin id (fault_in_order fault)
step_in_order step = step
