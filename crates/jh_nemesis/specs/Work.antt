-- How much is written by the steps of a nemesis (this project's own).
use Rattle.std.specs.Prelude.{ℕ, ◌+◌, List, [], ◌∷◌, filter, not}
use Rattle.std.specs.List.{sum_by}
use Rattle.jh_env.specs.Faults.{fault_size}
use Rattle.jh_nemesis.specs.State.{State, Active, is_active}
use Rattle.jh_nemesis.specs.Steps.{state_after}
use Rattle.jh_nemesis.specs.declared.steps.Step.{Step}

-- a nemesis: its state, and how often a count, a sum or an entry of a fix of its environment was
-- written
pub record NemesisValue : Type 0 where
  pub state : State
  pub work : ℕ

-- the sizes of these faults together
abbrev pub size_of_all : Active → ℕ
size_of_all active = sum_by (λ f. fault_size f.1) active

-- the faults of the one list whose ids the other has not
abbrev pub faults_only_in : Active → Active → Active
faults_only_in active other = filter (λ f. not (is_active other f.0)) active

-- how often may be written between two moments, at most: the sizes of the faults that are active at
-- one of them alone
abbrev pub size_between : Active → Active → ℕ
size_between before after =
    size_of_all (faults_only_in before after) + size_of_all (faults_only_in after before)

-- how often a step may write, at most
abbrev pub size_of_step : State → Step → ℕ
size_of_step s step = size_between s.active (state_after s step).active

-- how often steps may write, at most, one after another
abbrev pub size_of_steps : State → List Step → ℕ
size_of_steps s [] = 0
size_of_steps s (step ∷ steps) = size_of_step s step + size_of_steps (state_after s step) steps
