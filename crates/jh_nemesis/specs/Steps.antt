-- The steps of a nemesis (this project's own): the answer to a step and the state that it leaves.
use Rattle.std.specs.Prelude.{◌≡◌, ◌⊎◌, ℕ, Bool, true, false, List, [], ◌∷◌, ◌++◌, length, filter}
use Rattle.jh_edn.specs.Edn.{is_empty}
use Rattle.std.specs.Prelude.{not, nat_le, if◌then◌else◌}
use Rattle.jh_env.specs.Faults.{FitsCount}
use Rattle.jh_tables.specs.Limits.{max_laid}
use Rattle.jh_nemesis.specs.State.{State, Active, has_id, is_active, next_state}
use Rattle.jh_nemesis.specs.State.{state_back_to, state_forth_to}
use Rattle.jh_nemesis.specs.declared.steps.Step.{Step}
use Rattle.jh_nemesis.specs.declared.steps.Step.TheVariants.{Begin, Withdraw, WithdrawAll, Undo}
use Rattle.jh_nemesis.specs.declared.steps.Step.TheVariants.{Redo}
use Rattle.jh_nemesis.specs.declared.steps.StepAnswer.{StepAnswer}
use Rattle.jh_nemesis.specs.declared.steps.StepAnswer.TheVariants.{Ok, IdTaken, TooManyActive}
use Rattle.jh_nemesis.specs.declared.steps.StepAnswer.TheVariants.{TooManySteps, NotActive}
use Rattle.jh_nemesis.specs.declared.steps.StepAnswer.TheVariants.{NothingActive, NothingToUndo}
use Rattle.jh_nemesis.specs.declared.steps.StepAnswer.TheVariants.{NothingToRedo}
use Rattle.jh_nemesis.specs.declared.steps.BeginError.TheVariants as BeginError
use Rattle.jh_nemesis.specs.declared.steps.WithdrawError.TheVariants as WithdrawError
use Rattle.jh_nemesis.specs.declared.steps.WithdrawAllError.TheVariants as WithdrawAllError

-- how many faults are active at once, at most: as many as can be put on an environment
abbrev pub max_active : ℕ
max_active = max_laid

-- how many steps lie in the past, at most
abbrev pub max_steps : ℕ
max_steps = 4096

-- the answer to the begin of a fault under this id: the first refusal that applies
abbrev pub begin_answer : State → ℕ → StepAnswer
begin_answer s id =
    if is_active s.active id then IdTaken
    else if nat_le max_active (length s.active) then TooManyActive
    else if nat_le max_steps (length s.past) then TooManySteps
    else Ok

-- the answer to the withdrawal of the fault of this id: the first refusal that applies
abbrev pub withdraw_answer : State → ℕ → StepAnswer
withdraw_answer s id =
    if not (is_active s.active id) then NotActive
    else if nat_le max_steps (length s.past) then TooManySteps
    else Ok

-- the answer to the withdrawal of all faults: the first refusal that applies
abbrev pub withdraw_all_answer : State → StepAnswer
withdraw_all_answer s =
    if is_empty s.active then NothingActive
    else if nat_le max_steps (length s.past) then TooManySteps
    else Ok

-- the answer to a step; a step back or forth needs no room, for it was made when its step was
-- accepted
abbrev pub answer_of : State → Step → StepAnswer
answer_of s (Begin id f) = begin_answer s id
answer_of s (Withdraw id) = withdraw_answer s id
answer_of s WithdrawAll = withdraw_all_answer s
answer_of s Undo = if is_empty s.past then NothingToUndo else Ok
answer_of s Redo = if is_empty s.future then NothingToRedo else Ok

-- the code by which a history records an answer
abbrev pub code_of : StepAnswer → ℕ
code_of Ok = 0
code_of IdTaken = 1
code_of TooManyActive = 2
code_of TooManySteps = 3
code_of NotActive = 4
code_of NothingActive = 5
code_of NothingToUndo = 6
code_of NothingToRedo = 7

-- the active faults but the one of this id
abbrev pub active_without : Active → ℕ → Active
active_without active id = filter (λ f. not (has_id id f)) active

-- the state after an accepted step: a fault that is begun stands last, one that is withdrawn is
-- gone
abbrev pub moved_state : State → Step → State
moved_state s (Begin id f) = next_state s (s.active ++ (id, f) ∷ [])
moved_state s (Withdraw id) = next_state s (active_without s.active id)
moved_state s WithdrawAll = next_state s []
moved_state s Undo = state_back_to s s.past
moved_state s Redo = state_forth_to s s.future

-- the step is accepted
abbrev pub is_ok : StepAnswer → Bool
is_ok Ok = true
is_ok IdTaken = false
is_ok TooManyActive = false
is_ok TooManySteps = false
is_ok NotActive = false
is_ok NothingActive = false
is_ok NothingToUndo = false
is_ok NothingToRedo = false

-- the state after a step: a refused one changes nothing
abbrev pub state_after : State → Step → State
state_after s step = if is_ok (answer_of s step) then moved_state s step else s

-- the nodes that the fault of the step names are among so many
abbrev pub FitsNodes : ℕ → Step → Type 0
FitsNodes count (Begin id f) = FitsCount count f
FitsNodes count (Withdraw id) = Unit {0}
FitsNodes count WithdrawAll = Unit {0}
FitsNodes count Undo = Unit {0}
FitsNodes count Redo = Unit {0}

-- they are in the environment
abbrev pub StepFits : State → Step → Type 0
StepFits s step = FitsNodes (length s.names) step

-- a step that takes no memory
abbrev pub is_free : Step → Bool
is_free (Begin id f) = false
is_free (Withdraw id) = false
is_free WithdrawAll = false
is_free Undo = true
is_free Redo = true

-- the answers to steps, one after another
abbrev pub answers_of : State → List Step → List StepAnswer
answers_of s [] = []
answers_of s (step ∷ steps) = answer_of s step ∷ answers_of (state_after s step) steps

-- the state after steps, one after another
abbrev pub state_after_all : State → List Step → State
state_after_all s [] = s
state_after_all s (step ∷ steps) = state_after_all (state_after s step) steps

-- a step that would be accepted, and takes memory
abbrev pub NeedsMemory : State → Step → Type 0
NeedsMemory s step = (answer_of s step ≡ Ok) × (is_free step ≡ false)

-- Memory was refused: the steps before one were taken, with these answers, and left this state. It
-- was refused to that step, or to the room for all answers before any step was taken.
abbrev pub TakesFirst : State → List Step → List StepAnswer → State → Type 0
TakesFirst s steps answers after =
    (taken : List Step) × (next : Step) × (rest : List Step) × (steps ≡ taken ++ (next ∷ rest))
    × (answers ≡ answers_of s taken) × (after ≡ state_after_all s taken)
    × ((taken ≡ []) ⊎ NeedsMemory after next)

-- why a fault is not begun: what the step is answered, or memory was refused where it would be
-- accepted
abbrev pub RefusesBegin : State → ℕ → BeginError.the_data → Type 0
RefusesBegin s id BeginError.IdTaken = begin_answer s id ≡ IdTaken
RefusesBegin s id BeginError.TooManyActive = begin_answer s id ≡ TooManyActive
RefusesBegin s id BeginError.TooManySteps = begin_answer s id ≡ TooManySteps
RefusesBegin s id BeginError.OutOfMemory = begin_answer s id ≡ Ok

-- why a fault is not withdrawn, likewise
abbrev pub RefusesWithdraw : State → ℕ → WithdrawError.the_data → Type 0
RefusesWithdraw s id WithdrawError.NotActive = withdraw_answer s id ≡ NotActive
RefusesWithdraw s id WithdrawError.TooManySteps = withdraw_answer s id ≡ TooManySteps
RefusesWithdraw s id WithdrawError.OutOfMemory = withdraw_answer s id ≡ Ok

-- why not all faults are withdrawn, likewise
abbrev pub RefusesWithdrawAll : State → WithdrawAllError.the_data → Type 0
RefusesWithdrawAll s WithdrawAllError.NothingActive = withdraw_all_answer s ≡ NothingActive
RefusesWithdrawAll s WithdrawAllError.TooManySteps = withdraw_all_answer s ≡ TooManySteps
RefusesWithdrawAll s WithdrawAllError.OutOfMemory = withdraw_all_answer s ≡ Ok
