-- Which elements are of untold writers, as the judge finds them: proofs rest on it, and no public
-- clause names it. `there` marks the transactions that must be there, `marks` the elements that reads
-- have, and `readers` has the last reader of each key. This project's own.
use Rattle.std.specs.Prelude.{◌≡◌, ◌≢◌, ◌⊎◌, ◌↔◌, ◌==◌, ℕ, Bool, true, false, List, length, Option}
use Rattle.std.specs.Prelude.{Some, None, slice_index_or}
use Rattle.std.specs.List.{list_any}
use Rattle.jh_txn.specs.declared.txn.MicroOp.{MicroOp}
use Rattle.jh_txn.specs.declared.txn.MicroOp.TheVariants.{Append, Read}
use Rattle.jh_txn.specs.declared.txn.Txn.{Txn}
use Rattle.jh_txn.specs.Transactions.{Appends, IsDoneAt, appended, includes, ops_at}
use Rattle.jh_txn_seen.specs.Marks.{IsMarked}

-- whether a micro-operation is a read of the key
abbrev pub is_read_of : ℕ → MicroOp → Bool
is_read_of key (Append other element) = false
is_read_of key (Read other seen) = other == key

-- whether one of them is
abbrev pub has_read_of : ℕ → List MicroOp → Bool
has_read_of key ops = list_any (is_read_of key) ops

-- the transaction at a place is done, and reads the key
abbrev pub ReadsKey : List Txn → ℕ → ℕ → Type 0
ReadsKey txns place key =
    IsDoneAt txns place × (has_read_of key (ops_at txns place) ≡ true)

-- The transaction at a place must be there and appends the element to a key that it does not read;
-- and no read has the element.
abbrev pub IsUntoldAt : List Txn → List Bool → List Bool → ℕ → ℕ → Type 0
IsUntoldAt txns there marks place element =
    IsMarked there place × (¬ IsMarked marks element)
    × (key : ℕ) × Appends txns key element place × (¬ ReadsKey txns place key)

-- some transaction does so
abbrev pub IsAnyUntoldAt : List Txn → List Bool → List Bool → ℕ → Type 0
IsAnyUntoldAt txns there marks element =
    (place : ℕ) × IsUntoldAt txns there marks place element

-- the last reader of a key is the transaction at a place where that one reads it
abbrev pub NotesReadsOf : List Txn → ℕ → List (Option ℕ) → Type 0
NotesReadsOf txns place readers =
    (key : ℕ) → (slice_index_or readers key None ≡ Some place) ↔ ReadsKey txns place key

-- No other readers are new than the one at a place.
pub record NotesNoOther (place : ℕ) (old new : List (Option ℕ)) : Type 0 where
  pub count : length new ≡ length old
  pub only : (key other : ℕ) → slice_index_or new key None ≡ Some other
      → (other ≡ place) ⊎ (slice_index_or old key None ≡ Some other)

-- some micro-operations append the element, which no read has, to a key of which the transaction at a
-- place is not the last reader
abbrev pub AppendsBlind
    : List (Option ℕ) → List Bool → ℕ → List MicroOp → ℕ → Type 0
AppendsBlind readers marks place ops element =
    (¬ IsMarked marks element)
    × (key : ℕ) × (includes (appended key ops) element ≡ true)
    × (slice_index_or readers key None ≢ Some place)
