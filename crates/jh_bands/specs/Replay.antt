-- What steps of a nemesis make of the list of active faults (this project's own). This is the replay
-- of jh_nemesis (its specs/State.antt and specs/Steps.antt) seen by the ids and the texts of faults,
-- without an environment and without bounds on numbers. A step that the list does not allow changes
-- nothing: no nemesis of ours accepts it, so only histories of others have it.
use Rattle.std.specs.Prelude.{ℕ, ℤ, Bool, not, List, [], ◌∷◌, ◌++◌, filter, codes}
use Rattle.std.specs.Prelude.{if◌then◌else◌, Option, Some, None, option_and_then}
use Rattle.std.specs.List.{list_any}
use Rattle.std.specs.Option.{option_map_or}
use Rattle.std.specs.Ordering.{int_eq}
use Rattle.std.specs.Str.{bytes_eq}
use Rattle.jh_edn.specs.Edn.{Edn, int, keyword, elements_of, is_empty}

-- ---- steps

-- a step: a fault is begun under an id, the fault of an id is withdrawn, all are withdrawn, the last
-- change is undone, what was undone last is done again
pub data StepValue : Type 0 where
  begin : ℤ → Edn → StepValue
  withdraw : ℤ → StepValue
  withdraw_all : StepValue
  undo : StepValue
  redo : StepValue

-- the step that is a keyword alone
abbrev pub step_named : List ℕ → Option StepValue
step_named name =
    if bytes_eq name (codes "withdraw-all") then Some withdraw_all
    else if bytes_eq name (codes "undo") then Some undo
    else if bytes_eq name (codes "redo") then Some redo
    else None

-- the step that these elements mean
abbrev pub step_meant : List Edn → Option StepValue
step_meant (keyword name ∷ []) = step_named name
step_meant (keyword name ∷ int id ∷ []) =
    if bytes_eq name (codes "withdraw") then Some (withdraw id) else None
step_meant (keyword name ∷ int id ∷ fault ∷ []) =
    if bytes_eq name (codes "begin") then Some (begin id fault) else None
step_meant _ = None

-- the step that a value means: `[:begin ID FAULT]`, `[:withdraw ID]`, `[:withdraw-all]`, `[:undo]` or
-- `[:redo]`, where an ID is an integer and a FAULT any value
abbrev pub step_in : Edn → Option StepValue
step_in value = option_and_then step_meant (elements_of value)

-- ---- active faults

-- the faults that are active, each with its id, in the order in which they were begun
abbrev pub ActiveList : Type 0
ActiveList = List (ℤ × Edn)

-- the fault stands under this id
abbrev pub is_under : ℤ → (ℤ × Edn) → Bool
is_under id fault = int_eq fault.0 id

-- a fault of this id is active
abbrev pub is_id_active : ℤ → ActiveList → Bool
is_id_active id active = list_any (is_under id) active

-- the active faults but the one of this id
abbrev pub list_without : ℤ → ActiveList → ActiveList
list_without id active = filter (λ fault. not (is_under id fault)) active

-- what a step that begins or withdraws makes of these, where they allow it: a fault that is begun
-- stands last, one that is withdrawn is gone
abbrev pub next_active : ActiveList → StepValue → Option ActiveList
next_active active (begin id fault) =
    if is_id_active id active then None else Some (active ++ (id, fault) ∷ [])
next_active active (withdraw id) =
    if is_id_active id active then Some (list_without id active) else None
next_active active withdraw_all = if is_empty active then None else Some []
next_active active undo = None
next_active active redo = None

-- ---- the replay

-- the active lists: those of the past, the one now, and those undone, the latest first
pub record ReplayValue : Type 0 where
  pub past : List ActiveList
  pub active : ActiveList
  pub future : List ActiveList

-- before any step
abbrev pub first_replay : ReplayValue
first_replay = record { past = []; active = []; future = [] }

-- a new list: what was now is the last of the past, and nothing is undone
abbrev pub next_replay : ReplayValue → ActiveList → ReplayValue
next_replay r next = record { past = r.active ∷ r.past; active = next; future = [] }

-- back to the last of these before: what was now is the first that is undone
abbrev pub replay_back_to : ReplayValue → List ActiveList → ReplayValue
replay_back_to r [] = r
replay_back_to r (last ∷ before) =
    record { past = before; active = last; future = r.active ∷ r.future }

-- forth to the first of these that are undone: what was now is the last of the past
abbrev pub replay_forth_to : ReplayValue → List ActiveList → ReplayValue
replay_forth_to r [] = r
replay_forth_to r (first ∷ after) =
    record { past = r.active ∷ r.past; active = first; future = after }

-- what an accepted step leaves
abbrev pub replay_after : ReplayValue → StepValue → ReplayValue
replay_after r undo = replay_back_to r r.past
replay_after r redo = replay_forth_to r r.future
replay_after r step = option_map_or (next_replay r) (next_active r.active step) r
