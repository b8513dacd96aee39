-- Between those who read all of a key and the writers of what nobody read: a transaction that is
-- both, or a hub. This project's own.
use Rattle.std.specs.Prelude.{◌≡◌, ◌⊎◌, ℕ, ◌+◌, ◌<◌, Bool, List, length, Option, Some, slice_get}
use Rattle.jh_txn.specs.Transactions.{Appends}
use Rattle.jh_txn.specs.declared.dependency.Why.TheVariants.{ReadWrite}
use Rattle.jh_txn.specs.declared.txn.Txn.{Txn}
use Rattle.jh_txn_seen.specs.Marks.{IsMarked}
use Rattle.jh_txn_seen.specs.Reads.{IsAmongReads, longest_of}
use Rattle.jh_txn_seen.specs.declared.done_reads.DoneRead.{DoneRead}
use Rattle.jh_txn_seen.specs.declared.middles.Middle.{Middle}

-- the read saw all that the longest read of its key saw
abbrev pub IsFullRead : List (Option DoneRead) → DoneRead → Type 0
IsFullRead longest read = read.seen.now ≡ longest_of longest read.key

-- the transaction appends an element to the key that is not marked as read
abbrev pub AppendsUnread : List Txn → List Bool → ℕ → ℕ → ℕ → Type 0
AppendsUnread txns marks key element place =
    Appends txns key element place × (¬ IsMarked marks element)

-- a transaction that read all of the key and appends to it what nobody read
abbrev pub IsBoth
    : List Txn → List Bool → List (Option DoneRead) → List DoneRead → ℕ → Middle → Type 0
IsBoth txns marks longest reads key middle =
    (element : ℕ) × (read : DoneRead) × (middle.why ≡ ReadWrite key element)
    × AppendsUnread txns marks key element middle.node
    × IsAmongReads reads read × (read.place ≡ middle.node) × (read.key ≡ key) × IsFullRead longest read

-- What stands in the middle of each key: one that is both, if there is one among the first so many
-- reads, or its hub.
pub record AreMiddlesOf (txns : List Txn) (marks : List Bool) (longest : List (Option DoneRead))
    (reads : List DoneRead) (upto : ℕ) (middles : List Middle) : Type 0 where
  pub count : length middles ≡ length longest
  pub right : (key : ℕ) (middle : Middle) → slice_get middles key ≡ Some middle
      → IsBoth txns marks longest reads key middle
      ⊎ ((middle.node ≡ length txns + key)
      × ((index element : ℕ) (read : DoneRead) → index < upto → slice_get reads index ≡ Some read
      → read.key ≡ key → IsFullRead longest read
      → ¬ AppendsUnread txns marks key element read.place))
