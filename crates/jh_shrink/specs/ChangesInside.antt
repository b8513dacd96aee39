-- What an editor keeps of each edit: the change that takes it back, or that makes it again.
-- This project's own.
use Rattle.std.specs.Prelude.{◌≡◌, ◌+◌, ◌<◌, ◌≤◌, List, [], ◌∷◌, length, reverse, slice_index_or}
use Rattle.std.specs.Prelude.{slice_set, ⊤}
use Rattle.std.specs.List.{insert, remove}
use Rattle.std.specs.Vec.{vec_capacity}
use Rattle.jh_simnode.specs.declared.schedule.Entry.{Entry}
use Rattle.jh_simnode.specs.Limits.{max_entries}
use Rattle.jh_shrink.specs.declared.changes.EntryChange.{EntryChange}
use Rattle.jh_shrink.specs.declared.changes.EntryChange.TheVariants.{Put, Take, Swap}
use Rattle.jh_shrink.specs.declared.editor.Editor.TheInside.{Inside}
use Rattle.jh_shrink.specs.Edits.{EditState}

-- the entries after a change
abbrev pub entries_after_change : EntryChange → List Entry → List Entry
entries_after_change (Put place entry) entries = insert entries place entry
entries_after_change (Take place) entries = remove entries place
entries_after_change (Swap place entry) entries = slice_set entries place entry

-- the change that takes a change back
abbrev pub IsChangeBack : EntryChange → List Entry → EntryChange → Type 0
IsChangeBack (Put place entry) entries back = back ≡ Take place
IsChangeBack (Take place) entries back =
    (entry : Entry) × (entry ≡ slice_index_or entries place entry) × (back ≡ Put place entry)
IsChangeBack (Swap place entry) entries back =
    (other : Entry) × (other ≡ slice_index_or entries place other) × (back ≡ Swap place other)

-- the change can be made
abbrev pub Fits : EntryChange → List Entry → Type 0
Fits (Put place entry) entries = (place ≤ length entries) × (length entries < max_entries)
Fits (Take place) entries = place < length entries
Fits (Swap place entry) entries = place < length entries

-- the entries after each of these changes, one after another
abbrev pub entries_after_changes : List Entry → List EntryChange → List (List Entry)
entries_after_changes entries [] = []
entries_after_changes entries (change ∷ changes) =
    entries_after_change change entries
    ∷ entries_after_changes (entries_after_change change entries) changes

-- each of these changes can be made when its turn comes
abbrev pub CanBeMade : List Entry → List EntryChange → Type 0
CanBeMade entries [] = ⊤
CanBeMade entries (change ∷ changes) =
    Fits change entries × CanBeMade (entries_after_change change entries) changes

-- the state of entries, with the changes that take the edits back and those that make the undone
-- ones again, the latest last
abbrev pub edit_state_from : List Entry → List EntryChange → List EntryChange → EditState
edit_state_from entries past future = record {
  past = entries_after_changes entries (reverse past);
  now = entries;
  future = entries_after_changes entries (reverse future);
}

-- the state of the fields
abbrev pub edit_state_of : Inside → EditState
edit_state_of a = edit_state_from a.entries.items a.past.items a.future.items

-- what holds of the fields: all can be played, and there is room for all of it
pub record IsSoundEditor (a : Inside) : Type 0 where
  pub past : CanBeMade a.entries.items (reverse a.past.items)
  pub future : CanBeMade a.entries.items (reverse a.future.items)
  pub few : length a.entries.items ≤ max_entries
  pub places : max_entries ≤ vec_capacity a.entries
  pub to_undo : length a.past.items + length a.future.items ≤ vec_capacity a.future
  pub to_redo : length a.past.items + length a.future.items ≤ vec_capacity a.past
