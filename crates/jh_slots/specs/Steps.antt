-- What each atomic step on the words shows its seat (this project's own).
use Rattle.std.specs.Prelude.{◌≡◌, ℕ, zero, suc, ◌+◌, ◌*◌, ◌-◌, ◌<◌, ◌≤◌, ◌==◌, List, [], ◌∷◌, ◌++◌}
use Rattle.std.specs.Prelude.{length, if◌then◌else◌, MatchBool, true, None, Some}
use Rattle.std.specs.FinMap as fin
use Rattle.atomic_table.specs.Table.{Me, Step}
use Rattle.jh_slots.specs.Seats.{Mark, Words, Void, Claim, Knowledge, claim_at}
use Rattle.jh_slots.specs.Seats.{knowledge_after_look, knowledge_after_claim, knowledge_after_write}
use Rattle.jh_slots.specs.Seats.{knowledge_after_end, knowledge_after_read, AreClaimsApart, Agree}
use Rattle.jh_slots.specs.Stored.{Note, View, place_at, status_at, mark_of}

abbrev pub OwnView : Type 0
OwnView = Me ℕ View

-- the view, with other knowledge
abbrev pub view_knowing : View → Knowledge → View
view_knowing v k =
    record { live = v.live; cap = v.cap; knows = k; note = v.note; before = v.before }

-- the view, once it began to read a record
abbrev pub view_noting : View → ℕ → ℕ → View
view_noting v row len =
    record {
      live = v.live;
      cap = v.cap;
      knows = v.knows;
      note = Some
          (record { row = row; len = len; words = [] });
      before = v.before;
    }

-- what a look at the next free row shows
abbrev pub Looks : Step ℕ → OwnView → ℕ → OwnView → Type 0
Looks s me n you =
    (you.1 ≡ me.1) × (you.0 ≡ view_knowing me.0 (knowledge_after_look n me.0.knows))
    × (me.0.knows.low ≤ n) × (me.0.live ≡ true → n ≤ me.0.cap)

-- an exchange of the next free row: the rows are claimed, or it was a look
abbrev pub TakesRows : Step ℕ → OwnView → ℕ → OwnView → Type 0
TakesRows s me n you =
    (you.1 ≡ me.1) × (me.0.knows.low ≤ n) × (me.0.live ≡ true → n ≤ me.0.cap)
    × MatchBool (n == s.first)
    ((you.0 ≡ view_knowing me.0 (knowledge_after_claim n (s.second - s.first) me.0.knows))
    × ((r : ℕ) (m : Mark) → fin.get me.0.knows.seen r ≡ Some m → r < n)
    × AreClaimsApart you.0.knows)
    (you.0 ≡ view_knowing me.0 (knowledge_after_look n me.0.knows))

-- a word of an own claim is written
abbrev pub Writes : Step ℕ → OwnView → ℕ → OwnView → Type 0
Writes s me n you =
    (you.1 ≡ me.1)
    × ((f p : ℕ) (c : Claim) → fin.get me.0.knows.claims f ≡ Some c → p < 5 * c.rows
    → s.word ≡ place_at f p → you.0 ≡ view_knowing me.0 (knowledge_after_write f p n me.0.knows))

-- the status of an own claim's first row is written
abbrev pub Ends : Step ℕ → OwnView → ℕ → OwnView → Type 0
Ends s me n you =
    (you.1 ≡ me.1)
    × ((f : ℕ) (m : Mark) → s.word ≡ status_at me.0.cap f
    → mark_of n (claim_at me.0.knows f).words ≡ Some m
    → you.0 ≡ view_knowing me.0 (knowledge_after_end f m me.0.knows))

-- what a row's status makes of the view
abbrev pub view_peeked : ℕ → ℕ → View → View
view_peeked zero r v = v
view_peeked (suc zero) r v = view_knowing v (knowledge_after_read r Void v.knows)
view_peeked (suc (suc n)) r v = view_noting v r (suc n)

-- the status shows the mark
abbrev pub IsStatus : ℕ → Mark → Type 0
IsStatus zero m = ⊥
IsStatus (suc zero) m = m ≡ Void
IsStatus (suc (suc n)) m = (ws : List ℕ) × (m ≡ Words ws) × (length ws ≡ suc n)

-- a status is that of the mark, where the mark was seen
abbrev pub Peeks : Step ℕ → OwnView → ℕ → OwnView → Type 0
Peeks s me n you =
    (you.1 ≡ me.1)
    × ((r : ℕ) → s.word ≡ status_at me.0.cap r
    → ((m : Mark) → fin.get me.0.knows.seen r ≡ Some m → IsStatus n m)
    × (you.0 ≡ view_peeked n r me.0) × (1 < n → 5 * r + n ≤ 1 + 5 * me.0.cap))

-- one more word of a record. With the last one the record was seen
abbrev pub view_gathered : ℕ → Note → View → View
view_gathered n x v =
    record {
      live = v.live;
      cap = v.cap;
      knows =
          if length x.words + 1 == x.len
          then knowledge_after_read x.row (Words (x.words ++ n ∷ [])) v.knows else v.knows;
      note = Some (record { row = x.row; len = x.len; words = x.words ++ n ∷ [] });
      before = v.before;
    }

abbrev pub Gathers : Step ℕ → OwnView → ℕ → OwnView → Type 0
Gathers s me n you =
    (you.1 ≡ me.1)
    × ((x : Note) → me.0.note ≡ Some x → length x.words < x.len
    → s.word ≡ place_at x.row (length x.words)
    → (you.0 ≡ view_gathered n x me.0)
    × (length x.words + 1 ≡ x.len → (m : Mark) → fin.get me.0.knows.seen x.row ≡ Some m
    → m ≡ Words (x.words ++ n ∷ [])))

-- the view while a record is read, once these words of it were
abbrev pub view_reading : View → ℕ → ℕ → List ℕ → View
view_reading v row len ws =
    record {
      live = v.live;
      cap = v.cap;
      knows =
          if length ws == len then knowledge_after_read row (Words ws) v.knows else v.knows;
      note =
          Some (record { row = row; len = len; words = ws });
      before = v.before;
    }

-- a load after a join shows what held of the two seats
abbrev pub view_forgetting : View → View
view_forgetting v =
    record { live = v.live; cap = v.cap; knows = v.knows; note = v.note; before = None }

abbrev pub Recalls : Step ℕ → OwnView → ℕ → OwnView → Type 0
Recalls s me n you =
    (you.1 ≡ me.1) × (you.0 ≡ view_forgetting me.0)
    × ((p : Knowledge × Knowledge) → me.0.before ≡ Some p → Agree p.0 p.1)
