-- How the tables are filled: proofs rest on it, and no public clause names it. This project's own.
use Rattle.std.specs.Prelude.{◌≡◌, ◌⊎◌, ℕ, ◌<◌, List, ◌++◌, length, Option, Some, None, slice_get}
use Rattle.std.specs.Prelude.{slice_index_or, slice_set, option_and_then, Bool, true}
use Rattle.jh_txn.specs.Keeping.{BeginOneAnother}
use Rattle.jh_txn.specs.Transactions.{appended, includes, read_content}
use Rattle.jh_txn.specs.declared.dependency.Why.TheVariants.{ReadWrite}
use Rattle.jh_txn.specs.declared.txn.MicroOp.{MicroOp}
use Rattle.jh_txn.specs.declared.txn.Txn.{Txn}
use Rattle.jh_txn_seen.specs.Marks.{IsMarked}
use Rattle.jh_txn_seen.specs.Middles.{AppendsUnread, IsFullRead}
use Rattle.jh_txn_seen.specs.Reads.{HasRead, IsAmongReads, longest_of}
use Rattle.jh_txn_seen.specs.declared.done_reads.DoneRead.{DoneRead}
use Rattle.jh_txn_seen.specs.declared.middles.Middle.{Middle}
use Rattle.jh_txn_seen.specs.declared.middles.Unread.{Unread}

-- a micro-operation at an index is a read of this key, which saw these elements
abbrev pub IsReadAt : List MicroOp → ℕ → ℕ → List ℕ → Type 0
IsReadAt ops index key seen = option_and_then read_content (slice_get ops index) ≡ Some (key, seen)

-- a read is added, if the micro-operation of a transaction is one
pub record AddsRead (place : ℕ) (op : MicroOp) (old new : List DoneRead) : Type 0 where
  pub kept : (read : DoneRead) → IsAmongReads old read → IsAmongReads new read
  pub whole : (key : ℕ) (seen : List ℕ) → read_content op ≡ Some (key, seen)
      → HasRead new place key seen
  pub right : (read : DoneRead) → IsAmongReads new read → IsAmongReads old read
      ⊎ ((read.place ≡ place) × (read_content op ≡ Some (read.key, read.seen.now)))

-- the reads among the first micro-operations of a transaction are added
pub record AddsReads (place : ℕ) (ops : List MicroOp) (upto : ℕ) (old new : List DoneRead)
    : Type 0 where
  pub kept : (read : DoneRead) → IsAmongReads old read → IsAmongReads new read
  pub whole : (index key : ℕ) (seen : List ℕ) → index < upto → IsReadAt ops index key seen
      → HasRead new place key seen
  pub right : (read : DoneRead) → IsAmongReads new read → IsAmongReads old read
      ⊎ ((index : ℕ) × (read.place ≡ place) × IsReadAt ops index read.key read.seen.now)

-- A read is put into the table of its key, where what stands there begins it; else it begins that,
-- or neither begins the other one.
abbrev pub LooksAt
    : List (Option DoneRead) → DoneRead → Option DoneRead → List (Option DoneRead) → Type 0
LooksAt old read None new =
    ((new ≡ old) × ((rest : List ℕ) × (longest_of old read.key ≡ read.seen.now ++ rest)))
    ⊎ ((new ≡ slice_set old read.key (Some read))
    × ((rest : List ℕ) × (read.seen.now ≡ longest_of old read.key ++ rest)))
LooksAt old read (Some other) new =
    (slice_index_or old read.key None ≡ Some other)
    × (¬ BeginOneAnother other.seen.now read.seen.now)

-- what a table of unread elements has for a key
abbrev pub unread_at : List (Option Unread) → ℕ → Option Unread
unread_at table key = slice_index_or table key None

-- what these micro-operations of a transaction append and nobody read is noted
pub record NotesUnread (marks : List Bool) (place : ℕ) (ops : List MicroOp)
    (old new : List (Option Unread)) : Type 0 where
  pub count : length new ≡ length old
  pub kept : (key : ℕ) (unread : Unread) → unread_at old key ≡ Some unread
      → unread.place ≡ place
      → (other : Unread) × (unread_at new key ≡ Some other) × (other.place ≡ place)
  pub whole : (key element : ℕ) → includes (appended key ops) element ≡ true
      → (¬ IsMarked marks element)
      → (unread : Unread) × (unread_at new key ≡ Some unread) × (unread.place ≡ place)
  pub right : (key : ℕ) (unread : Unread) → unread_at new key ≡ Some unread
      → (unread_at old key ≡ Some unread)
      ⊎ ((unread.place ≡ place) × (includes (appended key ops) unread.element ≡ true)
      × (¬ IsMarked marks unread.element))

-- each is appended by its transaction, and nobody read it
abbrev pub AreUnread : List Txn → List Bool → List (Option Unread) → Type 0
AreUnread txns marks table =
    (key : ℕ) (unread : Unread) → unread_at table key ≡ Some unread
    → AppendsUnread txns marks key unread.element unread.place

-- the table has an unread element of each key to which the transaction appends one
abbrev pub IsNotedUnread : List Txn → List Bool → List (Option Unread) → ℕ → Type 0
IsNotedUnread txns marks table place =
    (key element : ℕ) → AppendsUnread txns marks key element place
    → (unread : Unread) × (unread_at table key ≡ Some unread) × (unread.place ≡ place)

-- the transaction of a read is put into the middle of its key, where the read saw all of it and a
-- table has an element of this transaction for the key
abbrev pub LooksAtMiddle
    : List (Option Unread) → List (Option DoneRead) → DoneRead → List Middle → List Middle → Type 0
LooksAtMiddle table longest read old new =
    ((new ≡ old) × ((unread : Unread) → unread_at table read.key ≡ Some unread
    → unread.place ≡ read.place → ¬ IsFullRead longest read))
    ⊎ ((unread : Unread) × (unread_at table read.key ≡ Some unread)
    × (unread.place ≡ read.place) × IsFullRead longest read
    × (new ≡ slice_set old read.key
    (record { node = read.place; why = ReadWrite read.key unread.element })))
