-- What follows for steps (this project's own).
use Rattle.std.specs.Prelude.{◌≡◌, ◌≢◌, ℕ, ◌≤◌, Bool, true, false, List, [], ◌∷◌, ◌++◌, length}
use Rattle.std.specs.Prelude.{replicate}
use Rattle.std.specs.List.{AllPairs}
use Rattle.jh_env.specs.Cells.{Link}
use Rattle.jh_env.specs.Cells.{link_at, node_at}
use Rattle.jh_env.specs.Faults.{FaultValue}
use Rattle.jh_env.specs.Overlay.{EnvValue, IsOverlay, StandsFor, cuts, cells_of, link_of, node_of}
use Rattle.jh_env.specs.Overlay.{link_over}
use Rattle.jh_nemesis.specs.State.{State, Active, first_state, faults_in}
use Rattle.jh_nemesis.specs.Steps.{answer_of, state_after, state_after_all, is_ok}
use Rattle.jh_nemesis.specs.declared.steps.Step.{Step}
use Rattle.jh_nemesis.specs.declared.steps.Step.TheVariants.{Begin, Withdraw, WithdrawAll, Undo}
use Rattle.jh_nemesis.specs.declared.steps.Step.TheVariants.{Redo}
use Rattle.jh_nemesis.specs.declared.steps.StepAnswer.TheVariants.{Ok}

-- a begin or a withdrawal
abbrev pub is_change : Step → Bool
is_change (Begin id f) = true
is_change (Withdraw id) = true
is_change WithdrawAll = true
is_change Undo = false
is_change Redo = false

-- a refused step changes nothing
abbrev pub RefusedStays : Type 0
RefusedStays = (s : State) (step : Step) → is_ok (answer_of s step) ≡ false → state_after s step ≡ s

-- after an accepted begin or withdrawal there is a step to undo, and undoing it gives back the
-- active faults, in their order, over the same start
pub record IsRestored (s after : State) : Type 0 where
  pub accepted : answer_of after Undo ≡ Ok
  pub active : (state_after after Undo).active ≡ s.active
  pub past : (state_after after Undo).past ≡ s.past
  pub start : (state_after after Undo).start ≡ s.start
  pub names : (state_after after Undo).names ≡ s.names

abbrev pub UndoRestores : Type 0
UndoRestores =
    (s : State) (step : Step) → is_change step ≡ true → is_ok (answer_of s step) ≡ true
    → IsRestored s (state_after s step)

-- a redo after an undo gives back the whole state, and so does an undo after a redo
abbrev pub RedoRestores : Type 0
RedoRestores =
    (s : State) → is_ok (answer_of s Undo) ≡ true → (answer_of (state_after s Undo) Redo ≡ Ok)
    × (state_after (state_after s Undo) Redo ≡ s)

abbrev pub UndoTakesRedoBack : Type 0
UndoTakesRedoBack =
    (s : State) → is_ok (answer_of s Redo) ≡ true → (answer_of (state_after s Redo) Undo ≡ Ok)
    × (state_after (state_after s Redo) Undo ≡ s)

-- so many undos and then as many redos lead back to the very state
abbrev pub RedosLeadBack : Type 0
RedosLeadBack =
    (n : ℕ) (s : State) → n ≤ length s.past
    → state_after_all s (replicate n Undo ++ replicate n Redo) ≡ s

-- after an accepted begin or withdrawal nothing can be redone
abbrev pub ChangeEndsFuture : Type 0
ChangeEndsFuture =
    (s : State) (step : Step) → is_change step ≡ true → is_ok (answer_of s step) ≡ true
    → (state_after s step).future ≡ []

-- steps lead to the state from one in which nothing was begun
abbrev pub StepsReach : State → Type 0
StepsReach s =
    (first : EnvValue) × (steps : List Step) × (s ≡ state_after_all (first_state first) steps)

-- in each state that steps reach no two active faults have one id
abbrev pub IdsAreOnce : Type 0
IdsAreOnce = (s : State) → StepsReach s → AllPairs (λ f g. f.0 ≢ g.0) s.active

-- a withdrawal leaves the other faults, in their order
abbrev pub WithdrawalLeavesOthers : Type 0
WithdrawalLeavesOthers =
    (s : State) (before after : Active) (id : ℕ) (f : FaultValue)
    → StepsReach s → s.active ≡ before ++ ((id, f) ∷ after)
    → is_ok (answer_of s (Withdraw id)) ≡ true
    → (state_after s (Withdraw id)).active ≡ before ++ after

-- and the environment that these alone make of the start
abbrev pub OthersAloneMake : Type 0
OthersAloneMake =
    (s : State) (before after : Active) (id : ℕ) (f : FaultValue) (env : EnvValue)
    → StepsReach s → s.active ≡ before ++ ((id, f) ∷ after)
    → is_ok (answer_of s (Withdraw id)) ≡ true
    → StandsFor env (faults_in (state_after s (Withdraw id)).active)
    → IsOverlay env.start (faults_in (before ++ after)) (cells_of env)

-- an environment is its start again
pub record IsAtStart (env : EnvValue) : Type 0 where
  pub links : (a b : ℕ) → link_of env a b ≡ link_at env.start a b
  pub nodes : (a : ℕ) → node_of env a ≡ node_at env.start a

-- withdrawing all faults leaves the start, whatever it was
abbrev pub WithdrawingAllLeavesStart : Type 0
WithdrawingAllLeavesStart =
    (s : State) (env : EnvValue) → is_ok (answer_of s WithdrawAll) ≡ true
    → StandsFor env (faults_in (state_after s WithdrawAll).active) → IsAtStart env

-- Whatever the steps were, an environment that stands for the active faults over the state's start
-- is what they make of the environment in which the nemesis was begun, cell by cell.
abbrev pub EnvironmentIsOverlay : Type 0
EnvironmentIsOverlay =
    (first env : EnvValue) (steps : List Step)
    → (let s = state_after_all (first_state first) steps in
    env.start ≡ s.start → StandsFor env (faults_in s.active)
    → IsOverlay first.start (faults_in s.active) (cells_of env))

-- a fault that is begun and withdrawn leaves the active faults as they were
abbrev pub WithdrawalEndsBegin : Type 0
WithdrawalEndsBegin =
    (s : State) (id : ℕ) (f : FaultValue) → is_ok (answer_of s (Begin id f)) ≡ true
    → is_ok (answer_of (state_after s (Begin id f)) (Withdraw id)) ≡ true
    → (state_after (state_after s (Begin id f)) (Withdraw id)).active ≡ s.active

-- a link that another active fault cuts is still cut after a withdrawal
abbrev pub CutsOfOthersStay : Type 0
CutsOfOthersStay =
    (s : State) (before after : Active) (id other : ℕ) (f : FaultValue) (a b : ℕ) (l : Link)
    → s.active ≡ before ++ ((other, f) ∷ after) → other ≢ id
    → cuts a b f ≡ true
    → (link_over (faults_in (state_after s (Withdraw id)).active) a b l).cut ≡ true

-- a link that the start cuts is cut whatever is active
abbrev pub CutsOfStartStay : Type 0
CutsOfStartStay =
    (active : Active) (a b : ℕ) (l : Link) → l.cut ≡ true
    → (link_over (faults_in active) a b l).cut ≡ true
