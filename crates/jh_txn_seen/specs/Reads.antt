-- The reads of transactions that are done, in one list, and the longest read of each key. This
-- project's own.
use Rattle.std.specs.Prelude.{◌≡◌, ℕ, ◌<◌, List, [], ◌++◌, length, Option, Some, None, slice_get}
use Rattle.std.specs.Prelude.{slice_index_or, unwrap_or, option_map}
use Rattle.jh_txn.specs.Keeping.{BeginOneAnother}
use Rattle.jh_txn.specs.Transactions.{Saw}
use Rattle.jh_txn.specs.declared.txn.Txn.{Txn}
use Rattle.jh_txn_seen.specs.declared.done_reads.DoneRead.{DoneRead}
use Rattle.jh_txn_seen.specs.declared.longest.Longest.{Longest}
use Rattle.jh_txn_seen.specs.declared.longest.Longest.TheVariants.{Fork, Reads}

-- the transaction at a place is done, and a read of it saw these elements of this key
abbrev pub HasSeen : List Txn → ℕ → ℕ → List ℕ → Type 0
HasSeen txns place key seen = (index : ℕ) × Saw txns place index key seen

-- the read is one of these
abbrev pub IsAmongReads : List DoneRead → DoneRead → Type 0
IsAmongReads reads read = (index : ℕ) × (slice_get reads index ≡ Some read)

-- one of these is of this transaction and this key, and saw these elements
abbrev pub HasRead : List DoneRead → ℕ → ℕ → List ℕ → Type 0
HasRead reads place key seen =
    (read : DoneRead) × IsAmongReads reads read × (read.place ≡ place) × (read.key ≡ key)
    × (read.seen.now ≡ seen)

-- These are all reads of the transactions below a place that are done.
pub record AreReadsBelow (txns : List Txn) (upto : ℕ) (reads : List DoneRead) : Type 0 where
  pub right : (read : DoneRead) → IsAmongReads reads read
      → HasSeen txns read.place read.key read.seen.now
  pub whole : (place key : ℕ) (seen : List ℕ) → place < upto → HasSeen txns place key seen
      → HasRead reads place key seen

-- These are all reads of transactions that are done.
abbrev pub AreDoneReads : List Txn → List DoneRead → Type 0
AreDoneReads txns reads = AreReadsBelow txns (length txns) reads

-- what the read saw, if there is one
abbrev pub seen_by : Option DoneRead → List ℕ
seen_by read = unwrap_or (option_map (λ r. r.seen.now) read) []

-- what the read that a table has for a key saw
abbrev pub longest_of : List (Option DoneRead) → ℕ → List ℕ
longest_of table key = seen_by (slice_index_or table key None)

-- A table by key has reads of its keys, each one of these; the first so many of these begin them.
pub record AreLongestOf (reads : List DoneRead) (upto : ℕ) (table : List (Option DoneRead))
    : Type 0 where
  pub right : (key : ℕ) (read : DoneRead) → slice_index_or table key None ≡ Some read
      → (read.key ≡ key) × IsAmongReads reads read
  pub begins : (index : ℕ) (read : DoneRead) → index < upto → slice_get reads index ≡ Some read
      → (rest : List ℕ) × (longest_of table read.key ≡ read.seen.now ++ rest)

-- Two reads of one key, of which neither begins the other one.
pub record AreForked (reads : List DoneRead) (one other : DoneRead) : Type 0 where
  pub first : IsAmongReads reads one
  pub second : IsAmongReads reads other
  pub same_key : one.key ≡ other.key
  pub apart : ¬ BeginOneAnother one.seen.now other.seen.now

-- the longest read of each key below a number, or two that fork
abbrev pub IsLongest : List DoneRead → ℕ → Longest → Type 0
IsLongest reads keys (Reads table) =
    (length table.items ≡ keys) × AreLongestOf reads (length reads) table.items
IsLongest reads keys (Fork one other) = AreForked reads one other
