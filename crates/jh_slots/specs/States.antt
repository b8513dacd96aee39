-- The state of a log and of all its seats (this project's own), and what is true of it at every
-- moment.
use Rattle.std.specs.Prelude.{◌≡◌, ℕ, ◌+◌, ◌*◌, ◌<◌, ◌≤◌, ◌⊎◌, List, length, slice_set, None, Some}
use Rattle.std.specs.Prelude.{Option}
use mathlib.Core.Option.{some}
use lib.ListN.{get_elem?}
use Rattle.std.specs.FinMap as map
use Rattle.jh_slots.specs.Seats.{Mark, Words, Void, Claim, Knowledge}

-- the next free row, the rows' marks, and what each seat knows
pub record LogState : Type 0 where
  pub next : ℕ
  pub marks : ℕ → Option Mark
  pub seats : List Knowledge

abbrev pub len_of : Mark → ℕ
len_of (Words ws) = length ws
len_of Void = 0

-- the places of the mark's words are no places of the claim, and its row none of the claim's
abbrev pub IsClear : ℕ → Mark → ℕ → Claim → Type 0
IsClear row m first c = (first + c.rows ≤ row) ⊎ ((row < first) × (5 * row + len_of m ≤ 5 * first))

-- Nobody claims beyond the last row, no seat is ahead of the next free row, what a seat has seen is
-- what the row shows, claims lie below the next free row, no two have a row in common, and a record
-- lies below the next free row too, and outside every open claim.
pub record IsSoundLog (cap : ℕ) (s : LogState) : Type 0 where
  pub next : s.next ≤ cap
  pub low : (i : ℕ) (v : Knowledge) → get_elem? s.seats i ≡ some v → v.low ≤ s.next
  pub seen : (i : ℕ) (v : Knowledge) (r : ℕ) (m : Mark) → get_elem? s.seats i ≡ some v
      → map.get v.seen r ≡ Some m → s.marks r ≡ Some m
  pub claims : (i : ℕ) (v : Knowledge) (f : ℕ) (c : Claim) → get_elem? s.seats i ≡ some v
      → map.get v.claims f ≡ Some c → (1 ≤ c.rows) × (f + c.rows ≤ s.next)
      × (length c.words ≡ 5 * c.rows)
  pub apart : (i j : ℕ) (v w : Knowledge) (f g : ℕ) (c d : Claim) → get_elem? s.seats i ≡ some v
      → get_elem? s.seats j ≡ some w → map.get v.claims f ≡ Some c → map.get w.claims g ≡ Some d
      → ((i ≡ j) × (f ≡ g)) ⊎ ((f + c.rows ≤ g) ⊎ (g + d.rows ≤ f))
  pub marked : (r : ℕ) (m : Mark) → s.marks r ≡ Some m → (r < s.next)
      × (5 * r + len_of m ≤ 5 * s.next)
  pub clear : (i : ℕ) (v : Knowledge) (f : ℕ) (c : Claim) (r : ℕ) (m : Mark)
      → get_elem? s.seats i ≡ some v → map.get v.claims f ≡ Some c → s.marks r ≡ Some m
      → IsClear r m f c

-- For the proofs, what any event of a seat does: marks stay, a new claim starts at the next free
-- row, and a new mark is of a claim that the seat held
pub record Moves (s : LogState) (v w : Knowledge) (next : ℕ)
    (marks : ℕ → Option Mark) : Type 0 where
  pub up : s.next ≤ next
  pub low : w.low ≤ next
  pub seen : (r : ℕ) (m : Mark) → map.get w.seen r ≡ Some m → marks r ≡ Some m
  pub grows : (r : ℕ) (m : Mark) → s.marks r ≡ Some m → marks r ≡ Some m
  pub claims : (f : ℕ) (c : Claim) → map.get w.claims f ≡ Some c → (length c.words ≡ 5 * c.rows)
      × (((d : Claim) × (map.get v.claims f ≡ Some d) × (d.rows ≡ c.rows))
      ⊎ ((f ≡ s.next) × (1 ≤ c.rows) × (s.next + c.rows ≤ next)))
  pub marked : (r : ℕ) (m : Mark) → marks r ≡ Some m → (s.marks r ≡ Some m)
      ⊎ ((d : Claim) × (map.get v.claims r ≡ Some d) × (len_of m ≤ 5 * d.rows)
      × (map.get w.claims r ≡ None))

-- the state after an event of the seat of that number
abbrev pub state_after_event : LogState → ℕ → Knowledge → ℕ → (ℕ → Option Mark) → LogState
state_after_event s i w next marks =
    record { next = next; marks = marks; seats = slice_set s.seats i w }
