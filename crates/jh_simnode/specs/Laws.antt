-- What holds at every place of every legal journal (this project's own).
use Rattle.std.specs.Prelude.{◌≡◌, ℕ, ◌+◌, ◌≤◌, Bool, true, List, [], ◌∷◌, ◌++◌, length, filter}
use Rattle.std.specs.Prelude.{not}
use Rattle.jh_env.specs.Cells.{link_at, node_at}
use Rattle.jh_nemesis.specs.State.{State, faults_in, has_id}
use Rattle.jh_nemesis.specs.Steps.{state_after_all, is_ok}
use Rattle.jh_nemesis.specs.Laws.{is_change}
use Rattle.jh_nemesis.specs.declared.steps.Step.{Step}
use Rattle.jh_nemesis.specs.declared.steps.Step.TheVariants.{Withdraw, WithdrawAll, Undo, Redo}
use Rattle.jh_nemesis.specs.declared.steps.StepAnswer.TheVariants.{Ok}
use Rattle.jh_simnode.specs.declared.events.Event.{Event}
use Rattle.jh_simnode.specs.Reach.{EnvCells, cells_over}
use Rattle.jh_simnode.specs.Events.{Setup, Moment, faultless_state, env_of, moment_after, moment_at}
use Rattle.jh_simnode.specs.Events.{IsLegal}

-- the active faults with their past and future after a journal, and the environment there
abbrev pub state_at : Setup → List Event → State
state_at u journal = (moment_at u journal).faults

-- the environment after a journal
abbrev pub env_at : Setup → List Event → EnvCells
env_at u journal = env_of (state_at u journal)

-- the steps of a journal alone
abbrev pub steps_in : List Event → List Step
steps_in [] = []
steps_in (Event.Call process node request draw reply ∷ es) = steps_in es
steps_in (Event.Step step answer ∷ es) = step ∷ steps_in es
steps_in (Event.Tick ∷ es) = steps_in es

-- a client call, a tick, or a step that was refused
abbrev pub is_quiet : Event → Bool
is_quiet (Event.Call process node request draw reply) = true
is_quiet (Event.Step step answer) = not (is_ok answer)
is_quiet Event.Tick = true

-- the environment is what the active faults make of the starting one, and those are what the steps
-- alone lead to
abbrev pub OverlayStands : Type 0
OverlayStands = (u : Setup) (before after : List Event) → IsLegal u (before ++ after)
    → (env_at u before ≡ cells_over u.start (faults_in (state_at u before).active))
    × (state_at u before ≡ state_after_all (faultless_state u) (steps_in before))

-- client calls, ticks and refused steps change neither the environment nor the active faults, nor
-- what can be undone or redone
abbrev pub QuietStays : Type 0
QuietStays =
    (u : Setup) (before after : List Event) (e : Event) → IsLegal u (before ++ e ∷ [] ++ after)
    → is_quiet e ≡ true
    → (env_at u (before ++ e ∷ []) ≡ env_at u before)
    × (state_at u (before ++ e ∷ []) ≡ state_at u before)

-- a withdrawal leaves what the other faults make of the starting environment
abbrev pub WithdrawLeaves : Type 0
WithdrawLeaves =
    (u : Setup) (before after : List Event) (id : ℕ)
    → IsLegal u (before ++ Event.Step (Withdraw id) Ok ∷ [] ++ after)
    → (let others = filter (λ f. not (has_id id f)) (state_at u before).active in
    ((state_at u (before ++ Event.Step (Withdraw id) Ok ∷ [])).active ≡ others)
    × (env_at u (before ++ Event.Step (Withdraw id) Ok ∷ [])
    ≡ cells_over u.start (faults_in others)))

-- a withdrawal of all leaves the starting environment
abbrev pub WithdrawAllLeaves : Type 0
WithdrawAllLeaves =
    (u : Setup) (before after : List Event)
    → IsLegal u (before ++ Event.Step WithdrawAll Ok ∷ [] ++ after)
    → (let env = env_at u (before ++ Event.Step WithdrawAll Ok ∷ []) in
    ((state_at u (before ++ Event.Step WithdrawAll Ok ∷ [])).active ≡ [])
    × ((a b : ℕ) → env.link a b ≡ link_at u.start a b) × ((a : ℕ) → env.node a ≡ node_at u.start a))

-- through these events there are never fewer than n moments to go back to, and n in the end
abbrev pub PastReturns : Setup → ℕ → Moment → List Event → Type 0
PastReturns u n m [] = length m.faults.past ≡ n
PastReturns u n m (e ∷ es) = (n ≤ length m.faults.past) × PastReturns u n (moment_after u m e) es

abbrev pub FutureReturns : Setup → ℕ → Moment → List Event → Type 0
FutureReturns u n m [] = length m.faults.future ≡ n
FutureReturns u n m (e ∷ es) =
    (n ≤ length m.faults.future) × FutureReturns u n (moment_after u m e) es

-- undo gives back the active faults, the past and the environment from before the last change that
-- stands
abbrev pub UndoRestoresWorld : Type 0
UndoRestoresWorld = (u : Setup) (before mid after : List Event) (step : Step)
    → IsLegal u (before ++ Event.Step step Ok ∷ [] ++ mid ++ Event.Step Undo Ok ∷ [] ++ after)
    → is_change step ≡ true
    → PastReturns u (length (state_at u before).past + 1)
    (moment_at u (before ++ Event.Step step Ok ∷ [])) mid
    → (let end = before ++ Event.Step step Ok ∷ [] ++ mid ++ Event.Step Undo Ok ∷ [] in
    ((state_at u end).active ≡ (state_at u before).active)
    × ((state_at u end).past ≡ (state_at u before).past)
    × (env_at u end ≡ env_at u before))

-- redo gives back the active faults, the future and the environment from before the undo
abbrev pub RedoRestoresWorld : Type 0
RedoRestoresWorld = (u : Setup) (before mid after : List Event)
    → IsLegal u (before ++ Event.Step Undo Ok ∷ [] ++ mid ++ Event.Step Redo Ok ∷ [] ++ after)
    → FutureReturns u (length (state_at u before).future + 1)
    (moment_at u (before ++ Event.Step Undo Ok ∷ [])) mid
    → (let end = before ++ Event.Step Undo Ok ∷ [] ++ mid ++ Event.Step Redo Ok ∷ [] in
    ((state_at u end).active ≡ (state_at u before).active)
    × ((state_at u end).future ≡ (state_at u before).future)
    × (env_at u end ≡ env_at u before))
