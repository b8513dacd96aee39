-- Marks by number: of transactions that must be there, and of elements that reads have. This
-- project's own.
use Rattle.std.specs.Prelude.{◌≡◌, ◌⊎◌, ℕ, Bool, true, false, List, length, Option, Some}
use Rattle.std.specs.Prelude.{slice_index_or}
use Rattle.jh_txn.specs.Transactions.{IsDoneAt, includes}
use Rattle.jh_txn.specs.declared.txn.Txn.{Txn}
use Rattle.jh_txn_seen.specs.Places.{writer_place}
use Rattle.jh_txn_seen.specs.Reads.{IsAmongReads, longest_of}
use Rattle.jh_txn_seen.specs.declared.done_reads.DoneRead.{DoneRead}
use Rattle.jh_txn_writers.specs.declared.writer.Writer.{Writer}

-- the number is marked
abbrev pub IsMarked : List Bool → ℕ → Type 0
IsMarked marks number = slice_index_or marks number false ≡ true

-- These numbers are marked, beside those that were.
pub record AddsMarks (numbers : ℕ → Type 0) (old new : List Bool) : Type 0 where
  pub count : length new ≡ length old
  pub kept : (number : ℕ) → IsMarked old number → IsMarked new number
  pub added : (number : ℕ) → numbers number → IsMarked new number
  pub only : (number : ℕ) → IsMarked new number → IsMarked old number ⊎ numbers number

-- the transaction appends an element that the read saw
abbrev pub IsShownBy : List (Option Writer) → DoneRead → ℕ → Type 0
IsShownBy writers read place =
    (element : ℕ) × (includes read.seen.now element ≡ true)
    × (writer_place writers read.key element ≡ Some place)

-- it appends an element that one of these reads saw
abbrev pub IsShown : List (Option Writer) → List DoneRead → ℕ → Type 0
IsShown writers reads place =
    (read : DoneRead) × IsAmongReads reads read × IsShownBy writers read place

-- Those transactions are marked that are done or that a read shows.
pub record AreThereMarks (txns : List Txn) (writers : List (Option Writer)) (reads : List DoneRead)
    (there : List Bool) : Type 0 where
  pub count : length there ≡ length txns
  pub done : (place : ℕ) → IsDoneAt txns place → IsMarked there place
  pub shown : (place : ℕ) → IsShown writers reads place → IsMarked there place
  pub only : (place : ℕ) → IsMarked there place
      → IsDoneAt txns place ⊎ IsShown writers reads place

-- some longest read has the element
abbrev pub IsReadElement : List (Option DoneRead) → ℕ → Type 0
IsReadElement longest element = (key : ℕ) × (includes (longest_of longest key) element ≡ true)
