-- The events of the seats of a log, and what holds after every list of them, by any seats in any
-- order (this project's own). Each event changes its seat by the word that the call of that name
-- cites.
use Rattle.std.specs.Prelude.{◌≡◌, ℕ, ◌+◌, ◌*◌, ◌<◌, ◌≤◌, ◌⊎◌, ◌==◌, List, [], ◌∷◌, ◌++◌}
use Rattle.std.specs.Prelude.{if◌then◌else◌}
use Rattle.std.specs.Prelude.{take, slice_set, None, Some, Option}
use mathlib.Core.Option.{some}
use lib.ListN.{get_elem?}
use Rattle.std.specs.FinMap as map
use Rattle.jh_slots.specs.Seats.{Mark, Words, Void, Claim, Knowledge, newcomer}
use Rattle.jh_slots.specs.Seats.{knowledge_after_look, knowledge_after_claim, knowledge_after_write}
use Rattle.jh_slots.specs.Seats.{knowledge_after_publish, knowledge_after_void}
use Rattle.jh_slots.specs.Seats.{knowledge_after_read, knowledge_after_split, knowledge_after_join}
use Rattle.jh_slots.specs.Seats.{Agree}
use Rattle.jh_slots.specs.States.{LogState, state_after_event}

-- what a seat does: a look at the next free row; a claim of so many rows; a write at a place of an
-- own claim; the end of an own claim, with a record of so many words or with none; a read of a row;
-- a split; a join with another seat
pub data Event : Type 0 where
  look : Event
  claim : ℕ → Event
  write : ℕ → ℕ → ℕ → Event
  publish : ℕ → ℕ → Event
  void : ℕ → Event
  read : ℕ → Event
  split : Event
  join : ℕ → Event

-- one more row with a mark
abbrev pub marks_with : ℕ → Mark → (ℕ → Option Mark) → ℕ → Option Mark
marks_with f m marks r = if r == f then Some m else marks r

-- all rows are free, and there is one seat
abbrev pub opening_state : LogState
opening_state = record { next = 0; marks = λ _. None; seats = newcomer ∷ [] }

-- the event of the seat i, which knows v, leads from s to t
abbrev pub Leads : ℕ → LogState → ℕ → Knowledge → Event → LogState → Type 0
Leads cap s i v look t = t ≡ state_after_event s i (knowledge_after_look s.next v) s.next s.marks
Leads cap s i v (claim rows) t =
    (1 ≤ rows) × (s.next + rows ≤ cap)
    × (t ≡ state_after_event s i (knowledge_after_claim s.next rows v) (s.next + rows) s.marks)
Leads cap s i v (write f p x) t =
    (c : Claim) × (map.get v.claims f ≡ Some c) × (p < 5 * c.rows)
    × (t ≡ state_after_event s i (knowledge_after_write f p x v) s.next s.marks)
Leads cap s i v (publish f len) t =
    (c : Claim) × (map.get v.claims f ≡ Some c) × (1 ≤ len) × (len ≤ 5 * c.rows)
    × (t ≡ state_after_event s i (knowledge_after_publish f len v) s.next
    (marks_with f (Words (take len c.words)) s.marks))
Leads cap s i v (void f) t =
    (c : Claim) × (map.get v.claims f ≡ Some c)
    × (t ≡ state_after_event s i (knowledge_after_void f v) s.next (marks_with f Void s.marks))
Leads cap s i v (read r) t =
    ((m : Mark) × (s.marks r ≡ Some m)
    × (t ≡ state_after_event s i (knowledge_after_read r m v) s.next s.marks))
    ⊎ ((s.marks r ≡ None) × (t ≡ s))
Leads cap s i v split t =
    t ≡ record { next = s.next; marks = s.marks; seats = s.seats ++ knowledge_after_split v ∷ [] }
Leads cap s i v (join j) t =
    (w : Knowledge) × (¬ (j ≡ i)) × (get_elem? s.seats j ≡ some w)
    × (t ≡ record {
      next = s.next;
      marks = s.marks;
      seats = slice_set
          (slice_set s.seats i (knowledge_after_join v w)) j newcomer;
    })

-- the events, each of the seat of that number, lead from s to t
abbrev pub EventsLead : ℕ → LogState → List (ℕ × Event) → LogState → Type 0
EventsLead cap s [] t = s ≡ t
EventsLead cap s (e ∷ es) t =
    (v : Knowledge) × (m : LogState) × (get_elem? s.seats e.0 ≡ some v) × Leads cap s e.0 v e.1 m
    × EventsLead cap m es t

-- a mark stays as it is
abbrev pub Lasts : LogState → LogState → Type 0
Lasts s t = (r : ℕ) (m : Mark) → s.marks r ≡ Some m → t.marks r ≡ Some m

-- what holds of a state and a later one
pub record KeepsLaws (cap : ℕ) (s t : LogState) : Type 0 where
  -- a row that a seat has seen keeps that mark, and no seat sees another
  pub lasting : (i : ℕ) (v : Knowledge) (r : ℕ) (m : Mark) → get_elem? s.seats i ≡ some v
      → map.get v.seen r ≡ Some m → t.marks r ≡ Some m
  pub agree : (i j : ℕ) (v w : Knowledge) (r : ℕ) (m n : Mark) → get_elem? s.seats i ≡ some v
      → get_elem? t.seats j ≡ some w → map.get v.seen r ≡ Some m → map.get w.seen r ≡ Some n → m ≡ n
  -- two claims have no row in common
  pub apart : (i j : ℕ) (v w : Knowledge) (f g : ℕ) (c d : Claim) → get_elem? t.seats i ≡ some v
      → get_elem? t.seats j ≡ some w → map.get v.claims f ≡ Some c → map.get w.claims g ≡ Some d
      → ((i ≡ j) × (f ≡ g)) ⊎ ((f + c.rows ≤ g) ⊎ (g + d.rows ≤ f))
  -- a claim begins at the next free row, which is at or above the seat's `low`, and above all rows
  -- that the seat has seen
  pub begins : (i : ℕ) (v : Knowledge) → get_elem? t.seats i ≡ some v → (v.low ≤ t.next)
      × (t.next ≤ cap) × ((r : ℕ) (m : Mark) → map.get v.seen r ≡ Some m → r < t.next)
  -- a seat that publishes has seen its record, whose words are those that it wrote
  pub publishes : (i : ℕ) (v : Knowledge) (f len : ℕ) (c : Claim) → get_elem? t.seats i ≡ some v
      → map.get v.claims f ≡ Some c
      → map.get (knowledge_after_publish f len v).seen f ≡ Some (Words (take len c.words))
  -- two seats that are joined agree, and the one seat has seen what either had
  pub joins : (i j : ℕ) (v w : Knowledge) → ¬ (j ≡ i) → get_elem? t.seats i ≡ some v
      → get_elem? t.seats j ≡ some w → Agree v w
      × ((r : ℕ) (m : Mark) → map.get v.seen r ≡ Some m
      → map.get (knowledge_after_join v w).seen r ≡ Some m)
      × ((r : ℕ) (m : Mark) → map.get w.seen r ≡ Some m
      → map.get (knowledge_after_join v w).seen r ≡ Some m)

abbrev pub SlotLaws : Type 0
SlotLaws =
    (cap : ℕ) (before after : List (ℕ × Event)) (s t : LogState)
    → EventsLead cap opening_state before s → EventsLead cap s after t → KeepsLaws cap s t
