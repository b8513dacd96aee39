-- How the words of a table show a state (this project's own). Word 0 is the next free row, then
-- come five words for each row, so that the words of a claim lie side by side, and then each row's
-- status: 0 without a mark, 1 for a void row, and else one more than the length of its record.
use Rattle.std.specs.Prelude.{◌≡◌, ℕ, zero, suc, ◌+◌, ◌*◌, ◌<◌, ◌≤◌, List, length, map, take, drop}
use Rattle.std.specs.Prelude.{slice_index, Bool, true, false, None, Some, Option}
use mathlib.Core.Option.{some}
use lib.ListN.{get_elem?}
use Rattle.std.specs.FinMap as fin
use Rattle.atomic_table.specs.Table.{State}
use Rattle.jh_slots.specs.Seats.{Mark, Words, Void, Claim, Knowledge, newcomer}
use Rattle.jh_slots.specs.Seats.{knowledge_after_split, knowledge_after_join, Agree}
use Rattle.jh_slots.specs.Sizes.{max_log_rows}
use Rattle.jh_slots.specs.States as law

-- A record that a seat has begun to read: its row, its length, and the words so far
pub record Note : Type 0 where
  pub row : ℕ
  pub len : ℕ
  pub words : List ℕ

-- what a seat of the table knows. A spent seat is not live. After a join, `before` has what the two
-- seats knew
pub record View : Type 0 where
  pub live : Bool
  pub cap : ℕ
  pub knows : Knowledge
  pub note : Option Note
  pub before : Option (Knowledge × Knowledge)

abbrev pub opening_view : ℕ → View
opening_view cap = record { live = true; cap = cap; knows = newcomer; note = None; before = None }

-- a seat that was joined to another
abbrev pub spent_view : View
spent_view = record { live = false; cap = 0; knows = newcomer; note = None; before = None }

-- the seat that a split makes
abbrev pub copy_view : View → View
copy_view v =
    record {
      live = v.live;
      cap = v.cap;
      knows = knowledge_after_split v.knows;
      note = None;
      before
          = None;
    }

-- two seats as one
abbrev pub join_view : View → View → View
join_view v w =
    record {
      live = v.live;
      cap = v.cap;
      knows = knowledge_after_join v.knows w.knows;
      note =
          v.note;
      before = Some (v.knows, w.knows);
    }

abbrev pub place_at : ℕ → ℕ → ℕ
place_at row place = 1 + (5 * row + place)

abbrev pub status_at : ℕ → ℕ → ℕ
status_at cap row = 1 + (5 * cap + row)

abbrev pub mark_of : ℕ → List ℕ → Option Mark
mark_of zero ws = None
mark_of (suc zero) ws = Some Void
mark_of (suc (suc n)) ws = Some (Words (take (suc n) ws))

-- the status that shows a mark
abbrev pub status_of : Mark → ℕ
status_of (Words ws) = suc (length ws)
status_of Void = 1

abbrev pub row_mark : ℕ → List ℕ → ℕ → Option Mark
row_mark cap words row =
    mark_of (slice_index words (status_at cap row)) (drop (place_at row 0) words)

abbrev pub knowledge_of : List View → List Knowledge
knowledge_of = map (λ v. v.knows)

-- the state that the words and the views show
abbrev pub shown_state : ℕ → List ℕ → List View → law.LogState
shown_state cap words views =
    record { next = slice_index words 0; marks = row_mark cap words; seats = knowledge_of views }

-- the note agrees with the record of its row
abbrev pub IsNoted : (ℕ → Option Mark) → Note → Type 0
IsNoted marks x =
    (ws : List ℕ) × (marks x.row ≡ Some (Words ws)) × (length ws ≡ x.len)
    × (take (length x.words) ws ≡ x.words)

-- What seats hold, note and remember is what the words say: each claim's words stand in their
-- places, each note and each record is that of its row, and the places of free rows are 0.
pub record IsStored (cap : ℕ) (words : List ℕ) (views : List View) : Type 0 where
  pub size : length words ≡ 1 + 6 * cap
  pub caps : (i : ℕ) (v : View) → get_elem? views i ≡ some v → v.live ≡ true → v.cap ≡ cap
  pub held : (i : ℕ) (v : View) (f : ℕ) (c : Claim) → get_elem? views i ≡ some v
      → fin.get v.knows.claims f ≡ Some c
      → take (length c.words) (drop (place_at f 0) words) ≡ c.words
  pub notes : (i : ℕ) (v : View) (x : Note) → get_elem? views i ≡ some v → v.note ≡ Some x
      → IsNoted (row_mark cap words) x
  pub joins : (i : ℕ) (v : View) (p : Knowledge × Knowledge) → get_elem? views i ≡ some v
      → v.before ≡ Some p → Agree p.0 p.1
  pub statuses : (r : ℕ) (m : Mark) → row_mark cap words r ≡ Some m
      → slice_index words (status_at cap r) ≡ status_of m
  pub zeros : (k : ℕ) → 5 * slice_index words 0 ≤ k → k < 5 * cap → slice_index words (1 + k) ≡ 0

-- the rule of the table: the words and the views of all seats show a sound state
abbrev pub IsTableKept : ℕ → State ℕ View → Type 0
IsTableKept cap s =
    law.IsSoundLog cap (shown_state cap s.words s.views) × IsStored cap s.words s.views

-- what is always true of a seat's view, for its table of so many words
pub record IsSeat (words : ℕ) (v : View) : Type 0 where
  pub live : v.live ≡ true
  pub size : words ≡ 1 + 6 * v.cap
  pub small : v.cap ≤ max_log_rows
  pub claims : (f : ℕ) (c : Claim) → fin.get v.knows.claims f ≡ Some c → (1 ≤ c.rows)
      × (f + c.rows ≤ v.cap) × (length c.words ≡ 5 * c.rows)
  pub seen : (r : ℕ) (m : Mark) → fin.get v.knows.seen r ≡ Some m → r < v.cap
