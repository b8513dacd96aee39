-- What the parts of checking an order go by: proofs rest on it, and no public clause names it.
-- This project's own.
use Rattle.std.specs.Prelude.{◌≡◌, ◌⊎◌, ℕ, ◌<◌, Bool, true, false, List, [], ◌++◌, length, take}
use Rattle.std.specs.Prelude.{Vec}
use Rattle.std.specs.Prelude.{Some, slice_get, slice_index_or, unwrap_or, option_map}
use Rattle.std.specs.Prelude.{option_and_then}
use Rattle.std.specs.declared.alloc.Global.{Global}
use Rattle.jh_txn.specs.declared.txn.MicroOp.{MicroOp}
use Rattle.jh_txn.specs.declared.txn.MicroOp.TheVariants.{Append, Read}
use Rattle.jh_txn.specs.declared.txn.Txn.{Txn}
use Rattle.jh_txn.specs.RealTime.{PrecedesInTime}
use Rattle.jh_txn.specs.Transactions.{appended, list_after, includes, read_content, ComesBefore}

-- a mark for each place below a number: whether it stands in an order
abbrev pub AreMarks : ℕ → List ℕ → List Bool → Type 0
AreMarks count order marks =
    (length marks ≡ count)
    × ((place : ℕ) → place < count → slice_index_or marks place false ≡ includes order place)

-- the first place stands in the list, and the second one is the same or stands behind it
abbrev pub ComesUpTo : List ℕ → ℕ → ℕ → Type 0
ComesUpTo places first second =
    ComesBefore places first second ⊎ ((first ≡ second) × (includes places first ≡ true))

-- none was done before itself, or one in front of it, was invoked
abbrev pub IsNoneTooLate : List Txn → List ℕ → Type 0
IsNoneTooLate txns order =
    (first second : ℕ) → PrecedesInTime txns first second → ¬ ComesUpTo order second first

-- the list of a key
abbrev pub list_at : List (Vec ℕ Global) → ℕ → List ℕ
list_at lists key = unwrap_or (option_map (λ list. list.items) (slice_get lists key)) []

-- the lists before, each with what these micro-operations append to its key
abbrev pub AreAfter : List MicroOp → List (Vec ℕ Global) → List (Vec ℕ Global) → Type 0
AreAfter ops old new =
    (length new ≡ length old)
    × ((key : ℕ) → key < length old → list_at new key ≡ list_at old key ++ appended key ops)

-- a micro-operation, if it is a read, saw the list of its key
abbrev pub SawList : List (Vec ℕ Global) → MicroOp → Type 0
SawList lists (Append key element) = Unit {0}
SawList lists (Read key seen) = seen ≡ list_at lists key

-- the micro-operation at an index, if it is a read, saw the list of its key behind those before it
abbrev pub SawListAt : List (Vec ℕ Global) → List MicroOp → ℕ → Type 0
SawListAt lists ops index =
    (key : ℕ) (seen : List ℕ)
    → option_and_then read_content (slice_get ops index) ≡ Some (key, seen)
    → seen ≡ list_at lists key ++ appended key (take index ops)

-- all lists are empty
abbrev pub AreAllEmpty : List (Vec ℕ Global) → Type 0
AreAllEmpty lists = (key : ℕ) → list_at lists key ≡ []

-- there is a list for each key, as it is behind the transactions at these places
abbrev pub AreListsAfter : List Txn → ℕ → List ℕ → List (Vec ℕ Global) → Type 0
AreListsAfter txns keys places lists =
    (length lists ≡ keys)
    × ((key : ℕ) → key < keys → list_at lists key ≡ list_after txns key places)
