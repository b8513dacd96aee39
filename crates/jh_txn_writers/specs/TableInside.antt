-- What making a table of writers goes by: proofs rest on it, and no public clause names it.
-- This project's own.
use Rattle.std.specs.Prelude.{◌≡◌, ℕ, ◌<◌, ◌==◌, true, List, [], Option, Some, None, MatchOption}
use Rattle.std.specs.Prelude.{IfSome, if◌then◌else◌, length, nat_lt, option_map, slice_index_or}
use Rattle.std.specs.Prelude.{slice_set}
use Rattle.jh_txn.specs.declared.txn.MicroOp.{MicroOp}
use Rattle.jh_txn.specs.declared.txn.MicroOp.TheVariants.{Append, Read}
use Rattle.jh_txn.specs.declared.txn.Txn.{Txn}
use Rattle.jh_txn.specs.Transactions.{appends_at, appends_before, includes}
use Rattle.jh_txn_writers.specs.declared.table.Entries.{Entries}
use Rattle.jh_txn_writers.specs.declared.writer.Writer.{Writer}
use Rattle.jh_txn_writers.specs.Writers.{AreNeighbours, BeginsWith, EndsWith, writer_at}

-- the last element of a key, if there is one
abbrev pub last_at : List (Option ℕ) → ℕ → Option ℕ
last_at last key = slice_index_or last key None

-- no key has one
abbrev pub AreNoneLast : List (Option ℕ) → Type 0
AreNoneLast last = (key : ℕ) → last_at last key ≡ None

-- What each transaction appended to a key up to an index of the one at a place: whoever comes before
-- that one all, it itself a part, and whoever comes behind it nothing.
abbrev pub appends_up_to : List Txn → ℕ → ℕ → ℕ → ℕ → List ℕ
appends_up_to txns place index key other =
    if other == place then appends_before txns key place index
    else (if nat_lt other place then appends_at txns key other else [])

-- The entry is that of an element in a list of one key and transaction: behind `previous` and before
-- `next`, or as the first and the last one there.
pub record IsWriterEntry (xs : List ℕ) (element : ℕ) (writer : Writer) : Type 0 where
  pub there : includes xs element ≡ true
  pub previous : MatchOption writer.previous (BeginsWith xs element)
      (λ other. AreNeighbours xs other element)
  pub next : MatchOption writer.next (EndsWith xs element)
      (λ other. AreNeighbours xs element other)

-- A table of the elements in lists, one of each key and transaction, and for each key the last element
-- of the transaction at a place.
pub record AreEntriesOf (lists : ℕ → ℕ → List ℕ) (place : ℕ) (table : List (Option Writer))
    (last : List (Option ℕ)) : Type 0 where
  pub right : (element : ℕ) (writer : Writer) → writer_at table element ≡ Some writer
      → IsWriterEntry (lists writer.key writer.place) element writer
  pub whole : (key other element : ℕ) → includes (lists key other) element ≡ true
      → (writer : Writer) × (writer_at table element ≡ Some writer) × (writer.key ≡ key)
      × (writer.place ≡ other)
  pub lasts : (key : ℕ) → MatchOption (last_at last key) (lists key place ≡ [])
      (EndsWith (lists key place))

-- what was entered up to an index of the transaction at a place
abbrev pub AreEntriesUpTo : List Txn → ℕ → ℕ → Entries → Type 0
AreEntriesUpTo txns place index entries =
    AreEntriesOf (appends_up_to txns place index) place entries.table.items entries.last.items

-- what was entered of the transactions before a place
abbrev pub AreEntriesBefore : List Txn → ℕ → Entries → Type 0
AreEntriesBefore txns place entries = AreEntriesUpTo txns place 0 entries

-- an entry with what is appended just behind its element
abbrev pub writer_with : Writer → ℕ → Writer
writer_with writer next = record writer { next = Some next }

-- the table with this in the entry of an element
abbrev pub with_next : List (Option Writer) → ℕ → ℕ → List (Option Writer)
with_next table element next =
    slice_set table element (option_map (λ writer. writer_with writer next) (writer_at table element))

-- the same where there is such an element
abbrev pub with_next_of : List (Option Writer) → Option ℕ → ℕ → List (Option Writer)
with_next_of table None next = table
with_next_of table (Some element) next = with_next table element next

-- the entry of an append that is the last one so far
abbrev pub last_appended : ℕ → ℕ → Option ℕ → Writer
last_appended key place previous =
    record { key = key; place = place; previous = previous; next = None }

-- a table with one append more
abbrev pub table_with : List (Option Writer) → ℕ → ℕ → ℕ → Option ℕ → List (Option Writer)
table_with table place key element previous =
    slice_set (with_next_of table previous element) element
    (Some (last_appended key place previous))

-- a table behind a micro-operation of the transaction at a place
abbrev pub table_behind : List (Option Writer) → List (Option ℕ) → ℕ → MicroOp
    → List (Option Writer)
table_behind table last place (Append key element) =
    table_with table place key element (last_at last key)
table_behind table last place (Read key seen) = table

-- the last elements behind a micro-operation
abbrev pub last_behind : List (Option ℕ) → MicroOp → List (Option ℕ)
last_behind last (Append key element) = slice_set last key (Some element)
last_behind last (Read key seen) = last

-- the last elements without that of the key of an append
abbrev pub last_without : List (Option ℕ) → MicroOp → List (Option ℕ)
last_without last (Append key element) = slice_set last key None
last_without last (Read key seen) = last

-- a micro-operation, if it is an append, has a place in the table, and so has the last element of its
-- key
abbrev pub IsEnterable : List (Option Writer) → List (Option ℕ) → MicroOp → Type 0
IsEnterable table last (Append key element) =
    (key < length last) × (element < length table)
    × IfSome (last_at last key) (λ other. other < length table)
IsEnterable table last (Read key seen) = Unit {0}
