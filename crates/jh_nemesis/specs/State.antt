-- What a nemesis is at a moment (this project's own; Jepsen's pages on nemeses call its faults
-- begun and withdrawn).
use Rattle.std.specs.Prelude.{ℕ, ◌==◌, Bool, List, [], ◌∷◌, map}
use Rattle.std.specs.List.{list_any}
use Rattle.jh_env.specs.Cells.{Table}
use Rattle.jh_env.specs.Faults.{FaultValue}
use Rattle.jh_env.specs.Overlay.{EnvValue}

-- the faults that are active, each with its id, in the order in which they were begun
abbrev pub Active : Type 0
Active = List (ℕ × FaultValue)

-- the names and starting cells of the environment, and the active lists: those of the past, the one
-- now, and those undone, the latest first
pub record State : Type 0 where
  pub names : List (List ℕ)
  pub start : Table
  pub past : List Active
  pub active : Active
  pub future : List Active

-- over an environment at its start
abbrev pub first_state : EnvValue → State
first_state env =
    record { names = env.names; start = env.start; past = []; active = []; future = [] }

-- the fault stands under this id
abbrev pub has_id : ℕ → (ℕ × FaultValue) → Bool
has_id id f = f.0 == id

-- a fault of this id is active
abbrev pub is_active : Active → ℕ → Bool
is_active active id = list_any (has_id id) active

-- the active faults without their ids
abbrev pub faults_in : Active → List FaultValue
faults_in active = map (λ f. f.1) active

-- a new moment: what was now is the last of the past, and nothing is undone
abbrev pub next_state : State → Active → State
next_state s next = record s { past = s.active ∷ s.past; active = next; future = [] }

-- back to the last moment of these before: what was now is the first that is undone
abbrev pub state_back_to : State → List Active → State
state_back_to s [] = s
state_back_to s (moment ∷ before) =
    record s { past = before; active = moment; future = s.active ∷ s.future }

-- forth to the first moment of these that are undone: what was now is the last of the past
abbrev pub state_forth_to : State → List Active → State
state_forth_to s [] = s
state_forth_to s (moment ∷ after) =
    record s { past = s.active ∷ s.past; active = moment; future = after }
