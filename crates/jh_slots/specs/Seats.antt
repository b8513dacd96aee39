-- A log of rows as plain maps (this project's own): what a seat knows, and what each event makes of
-- it. The contracts of the calls cite these words, and so does the law over every list of events.
use Rattle.std.specs.Prelude.{◌≡◌, ℕ, ◌+◌, ◌*◌, ◌<◌, ◌≤◌, ◌⊎◌, max, List, [], ◌++◌, replicate, take}
use Rattle.std.specs.Prelude.{slice_set, Some}
use Rattle.std.specs.Option.{unwrap_or}
use Rattle.std.specs.FinMap as map
use Rattle.std.specs.Ordering.{nat_cmp}
use Rattle.atomic_table.specs.Seated.{TableId}

-- what a row shows once its claim is ended
pub data Mark : Type 0 where
  Words : List ℕ → Mark
  Void : Mark

-- rows that a seat has claimed, by their number and the words written so far
pub record Claim : Type 0 where
  pub rows : ℕ
  pub words : List ℕ

-- a claim as its owner holds it: the first of its rows, and how many there are
pub record ClaimValue : Type 0 where
  pub first : ℕ
  pub rows : ℕ

abbrev pub Marks : Type 0
Marks = map.FinMap nat_cmp Mark

abbrev pub Claims : Type 0
Claims = map.FinMap nat_cmp Claim

-- what a seat knows: the marks that it has seen, a number at or below the next free row, and its
-- claims by first row
pub record Knowledge : Type 0 where
  pub seen : Marks
  pub low : ℕ
  pub claims : Claims

abbrev pub newcomer : Knowledge
newcomer = record { seen = map.empty; low = 0; claims = map.empty }

abbrev pub no_claim : Claim
no_claim = record { rows = 0; words = [] }

abbrev pub claim_at : Knowledge → ℕ → Claim
claim_at v first = unwrap_or (map.get v.claims first) no_claim

-- the seat holds the claim of these rows
abbrev pub HoldsClaim : Knowledge → ℕ → ℕ → Type 0
HoldsClaim v first rows =
    (words : List ℕ) × (map.get v.claims first ≡ Some (record { rows = rows; words = words }))

-- what a seat knows after each event, at the seat whose event it is
abbrev pub knowledge_after_look : ℕ → Knowledge → Knowledge
knowledge_after_look next v = record { seen = v.seen; low = next; claims = v.claims }

abbrev pub knowledge_after_claim : ℕ → ℕ → Knowledge → Knowledge
knowledge_after_claim first rows v =
    record {
      seen = v.seen;
      low = first + rows;
      claims = map.insert v.claims first
          (record { rows = rows; words = replicate (5 * rows) 0 });
    }

abbrev pub written_claim : Claim → ℕ → ℕ → Claim
written_claim c place x = record { rows = c.rows; words = slice_set c.words place x }

abbrev pub knowledge_after_write : ℕ → ℕ → ℕ → Knowledge → Knowledge
knowledge_after_write first place x v =
    record {
      seen = v.seen;
      low = v.low;
      claims = map.insert v.claims first
          (written_claim (claim_at v first) place x);
    }

abbrev pub knowledge_after_end : ℕ → Mark → Knowledge → Knowledge
knowledge_after_end first m v =
    record { seen = map.insert v.seen first m; low = v.low; claims = map.remove v.claims first }

abbrev pub knowledge_after_publish : ℕ → ℕ → Knowledge → Knowledge
knowledge_after_publish first len v =
    knowledge_after_end first (Words (take len (claim_at v first).words)) v

abbrev pub knowledge_after_void : ℕ → Knowledge → Knowledge
knowledge_after_void first v = knowledge_after_end first Void v

abbrev pub knowledge_after_read : ℕ → Mark → Knowledge → Knowledge
knowledge_after_read row m v =
    record { seen = map.insert v.seen row m; low = v.low; claims = v.claims }

-- the second of two seats, after a split
abbrev pub knowledge_after_split : Knowledge → Knowledge
knowledge_after_split v = record { seen = v.seen; low = v.low; claims = map.empty }

-- a seat: the table that it is of, and what it knows
pub record SeatValue : Type 0 where
  pub table : TableId
  pub knows : Knowledge

-- a log: which table it is, and how many rows it has
pub record Log : Type 0 where
  pub table : TableId
  pub rows : ℕ

-- the claims of one seat have no row in common
abbrev pub AreClaimsApart : Knowledge → Type 0
AreClaimsApart v =
    (f g : ℕ) (c d : Claim) → map.get v.claims f ≡ Some c → map.get v.claims g ≡ Some d → (f ≡ g)
    ⊎ ((f + c.rows ≤ g) ⊎ (g + d.rows ≤ f))

-- where a claim begins: at or above what the seat knew to be taken, and above all rows that it has
-- seen
abbrev pub BeginsAbove : Knowledge → ℕ → Type 0
BeginsAbove v first = (v.low ≤ first) × ((r : ℕ) (m : Mark) → map.get v.seen r ≡ Some m → r < first)

-- of each row that both seats have seen they have seen the same mark, and their claims have no row
-- in common
abbrev pub Agree : Knowledge → Knowledge → Type 0
Agree v w =
    ((r : ℕ) (m n : Mark) → map.get v.seen r ≡ Some m → map.get w.seen r ≡ Some n → m ≡ n)
    × ((f g : ℕ) (c d : Claim) → map.get v.claims f ≡ Some c → map.get w.claims g ≡ Some d
    → (f + c.rows ≤ g) ⊎ (g + d.rows ≤ f))

-- what is in either map. At a key of both it has the first one's
abbrev pub gathered_map : {X : Type 0} → map.FinMap nat_cmp X → map.FinMap nat_cmp X
    → map.FinMap nat_cmp X
gathered_map a b = map.from_entries (map.entries a ++ map.entries b)

-- two seats as one
abbrev pub knowledge_after_join : Knowledge → Knowledge → Knowledge
knowledge_after_join v w =
    record {
      seen = gathered_map v.seen w.seen;
      low = max v.low w.low;
      claims = gathered_map
          v.claims w.claims;
    }
