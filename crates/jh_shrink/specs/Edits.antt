-- A schedule under edits (this project's own): what an edit makes of it, and what undo and redo
-- bring back.
use Rattle.std.specs.Prelude.{ℕ, ◌<◌, ◌≤◌, List, [], ◌∷◌, length}
use Rattle.jh_simnode.specs.declared.schedule.Entry.{Entry}
use Rattle.jh_simnode.specs.Limits.{max_entries}
use Rattle.jh_shrink.specs.declared.editor.EditError.{EditError}
use Rattle.jh_shrink.specs.declared.editor.EditError.TheVariants.{BadPlace, TooManyEdits}
use Rattle.jh_shrink.specs.declared.editor.EditError.TheVariants.{OutOfMemory}
use Rattle.jh_shrink.specs.declared.editor.InsertError.{InsertError}
use Rattle.jh_shrink.specs.declared.editor.InsertError.TheVariants as Insert

-- the schedule now; those before, the latest first; and those that were undone, the latest first
pub record EditState : Type 0 where
  pub past : List (List Entry)
  pub now : List Entry
  pub future : List (List Entry)

-- nothing was edited yet
abbrev pub state_before_edits : List Entry → EditState
state_before_edits schedule = record { past = []; now = schedule; future = [] }

-- after an edit: what was now is the latest of the past, and nothing is undone
abbrev pub state_after_edit : EditState → List Entry → EditState
state_after_edit s next = record { past = s.now ∷ s.past; now = next; future = [] }

-- back to the latest of these before: what was now is the latest that is undone
abbrev pub edit_state_back : EditState → List (List Entry) → EditState
edit_state_back s [] = s
edit_state_back s (schedule ∷ before) =
    record { past = before; now = schedule; future = s.now ∷ s.future }

-- forth to the latest of these that are undone: what was now is the latest of the past
abbrev pub edit_state_forth : EditState → List (List Entry) → EditState
edit_state_forth s [] = s
edit_state_forth s (schedule ∷ after) =
    record { past = s.now ∷ s.past; now = schedule; future = after }

-- the state after an undo, and after a redo
abbrev pub edit_state_after_undo : EditState → EditState
edit_state_after_undo s = edit_state_back s s.past

abbrev pub edit_state_after_redo : EditState → EditState
edit_state_after_redo s = edit_state_forth s s.future

-- how many edits are kept, at most
abbrev pub max_edits : ℕ
max_edits = 4096

-- one more edit can be undone
abbrev pub HasRoom : EditState → Type 0
HasRoom s = length s.past < max_edits

-- the entry at a place may be taken out or replaced
abbrev pub MayEdit : EditState → ℕ → Type 0
MayEdit s place = (place < length s.now) × HasRoom s

-- an entry may be put in at a place, or at the end
abbrev pub MayInsert : EditState → ℕ → Type 0
MayInsert s place = (place ≤ length s.now) × (length s.now < max_entries) × HasRoom s

-- why the entry at a place is not edited: the first refusal that applies, or memory was refused
-- where it may be
abbrev pub RefusesEdit : EditState → ℕ → EditError → Type 0
RefusesEdit s place BadPlace = length s.now ≤ place
RefusesEdit s place TooManyEdits = (place < length s.now) × (max_edits ≤ length s.past)
RefusesEdit s place OutOfMemory = MayEdit s place

-- why none is put in, likewise
abbrev pub RefusesInsert : EditState → ℕ → InsertError → Type 0
RefusesInsert s place Insert.BadPlace = length s.now < place
RefusesInsert s place Insert.TooLong = (place ≤ length s.now) × (max_entries ≤ length s.now)
RefusesInsert s place Insert.TooManyEdits =
    (place ≤ length s.now) × (length s.now < max_entries) × (max_edits ≤ length s.past)
RefusesInsert s place Insert.OutOfMemory = MayInsert s place
