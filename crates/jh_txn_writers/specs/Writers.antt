-- A table of writers: for each element its append, if there is one. This project's own.
use Rattle.std.specs.Prelude.{◌≡◌, ℕ, List, [], ◌∷◌, ◌++◌, length, Option, Some, None, MatchOption}
use Rattle.std.specs.Prelude.{slice_index_or}
use Rattle.jh_txn.specs.declared.txn.Txn.{Txn}
use Rattle.jh_txn.specs.Transactions.{Appends, appends_at}
use Rattle.jh_txn_writers.specs.declared.writer.Writer.{Writer}

-- the entry of an element; past the end of the table there is none
abbrev pub writer_at : List (Option Writer) → ℕ → Option Writer
writer_at table element = slice_index_or table element None

-- the second number stands just behind the first one in a list
abbrev pub AreNeighbours : List ℕ → ℕ → ℕ → Type 0
AreNeighbours xs one other = (front back : List ℕ) × (xs ≡ front ++ one ∷ other ∷ back)

-- the number is the first of a list
abbrev pub BeginsWith : List ℕ → ℕ → Type 0
BeginsWith xs x = (back : List ℕ) × (xs ≡ x ∷ back)

-- the number is the last of a list
abbrev pub EndsWith : List ℕ → ℕ → Type 0
EndsWith xs x = (front : List ℕ) × (xs ≡ front ++ x ∷ [])

-- The entry is the append of an element: the transaction appends it to the key, behind `previous`
-- and before `next`, or as the first and the last one there.
pub record IsWriterOf (txns : List Txn) (element : ℕ) (writer : Writer) : Type 0 where
  pub appends : Appends txns writer.key element writer.place
  pub previous : MatchOption writer.previous (BeginsWith (appends_at txns writer.key writer.place) element)
      (λ other. AreNeighbours (appends_at txns writer.key writer.place) other element)
  pub next : MatchOption writer.next (EndsWith (appends_at txns writer.key writer.place) element)
      (λ other. AreNeighbours (appends_at txns writer.key writer.place) element other)

-- An entry for each element below a number: its append, if there is one.
pub record AreWriters (txns : List Txn) (elements : ℕ) (table : List (Option Writer))
    : Type 0 where
  pub count : length table ≡ elements
  pub right : (element : ℕ) (writer : Writer) → writer_at table element ≡ Some writer
      → IsWriterOf txns element writer
  pub whole : (key element place : ℕ) → Appends txns key element place
      → (writer : Writer) × (writer_at table element ≡ Some writer) × (writer.key ≡ key)
      × (writer.place ≡ place)
