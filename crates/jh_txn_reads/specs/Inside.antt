-- What the parts of finding a bad read go by: proofs rest on it, and no public clause names it.
-- What a read saw is its base, and behind it what its own transaction appended before: so the bases
-- are judged, each by itself. This project's own.
use Rattle.std.specs.Prelude.{◌≡◌, ◌≢◌, ◌==◌, ◌⊎◌, ℕ, ◌<◌, ◌≤◌, Bool, true, false, List, []}
use Rattle.std.specs.Prelude.{◌++◌, Option, Some, option_and_then, slice_get, slice_index_or}
use Rattle.std.specs.Prelude.{if◌then◌else◌}
use Rattle.jh_txn.specs.declared.anomaly.BadRead.{BadRead}
use Rattle.jh_txn.specs.declared.anomaly.BadRead.TheVariants.{Internal, DuplicateElements}
use Rattle.jh_txn.specs.declared.anomaly.BadRead.TheVariants.{GarbageRead, AbortedRead}
use Rattle.jh_txn.specs.declared.anomaly.BadRead.TheVariants.{IntermediateRead, OutOfOrder}
use Rattle.jh_txn.specs.declared.txn.Txn.{Txn}
use Rattle.jh_txn.specs.BadReads.{SawBase}
use Rattle.jh_txn.specs.Transactions.{IsFailedAt, IsPossibleAt, Saw, Appends, appends_at}
use Rattle.jh_txn.specs.Transactions.{appends_before, includes, ComesBefore, HasNoRepeat}
use Rattle.jh_txn_writers.specs.declared.writer.Writer.{Writer}
use Rattle.jh_txn_writers.specs.Writers.{AreNeighbours, writer_at}
use Rattle.jh_txn_reads.specs.declared.views.View.{View}

-- just the elements of a list are marked
abbrev pub AreElementMarks : List ℕ → List Bool → Type 0
AreElementMarks xs marks = (element : ℕ) → slice_index_or marks element false ≡ includes xs element

-- Nothing is wrong with an element of a base of the transaction at a place: another transaction,
-- which did not fail, appended it to the key, and what this one appended there just before it and
-- just behind it is in the base too.
pub record IsSoundElement (txns : List Txn) (place key : ℕ) (base : List ℕ) (element : ℕ)
    : Type 0 where
  pub written : (writer : ℕ) × Appends txns key element writer × (writer ≢ place)
      × IsPossibleAt txns writer
  pub previous : (other writer : ℕ)
      → AreNeighbours (appends_at txns key writer) other element → includes base other ≡ true
  pub next : (other writer : ℕ)
      → AreNeighbours (appends_at txns key writer) element other → includes base other ≡ true

-- no element of a base comes before the one that its writer appended to the key just before it
abbrev pub IsReadInTurn : List Txn → ℕ → List ℕ → Type 0
IsReadInTurn txns key base =
    (one other writer : ℕ) → AreNeighbours (appends_at txns key writer) one other
    → ¬ ComesBefore base other one

-- Nothing is wrong with a base of the transaction at a place.
pub record IsSoundBase (txns : List Txn) (place key : ℕ) (base : List ℕ) : Type 0 where
  pub distinct : HasNoRepeat base
  pub elements : (element : ℕ) → includes base element ≡ true
      → IsSoundElement txns place key base element
  pub in_turn : IsReadInTurn txns key base

-- what is wrong with a base of the transaction at a place
abbrev pub IsWrongBase : List Txn → ℕ → ℕ → List ℕ → BadRead → Type 0
IsWrongBase txns place key base Internal =
    (element : ℕ) × (includes base element ≡ true) × Appends txns key element place
IsWrongBase txns place key base DuplicateElements = ¬ HasNoRepeat base
IsWrongBase txns place key base GarbageRead =
    (element : ℕ) × (includes base element ≡ true)
    × ((other : ℕ) → ¬ Appends txns key element other)
IsWrongBase txns place key base AbortedRead =
    (element writer : ℕ) × (includes base element ≡ true) × Appends txns key element writer
    × IsFailedAt txns writer
IsWrongBase txns place key base IntermediateRead =
    (one other writer : ℕ) × (writer ≢ place) × Appends txns key one writer
    × Appends txns key other writer × (includes base one ≡ true) × (includes base other ≡ false)
IsWrongBase txns place key base OutOfOrder =
    (one other writer : ℕ) × ComesBefore (appends_at txns key writer) one other
    × ComesBefore base other one

-- What the transaction at a place read of a key is sound: all reads have one base, and nothing is
-- wrong with it.
abbrev pub IsSoundKey : List Txn → ℕ → ℕ → Type 0
IsSoundKey txns place key =
    (base : List ℕ) × IsSoundBase txns place key base
    × ((index : ℕ) (seen : List ℕ) → Saw txns place index key seen
    → seen ≡ base ++ appends_before txns key place index)

-- all that the transaction at a place read is sound
abbrev pub IsSoundTxn : List Txn → ℕ → Type 0
IsSoundTxn txns place = (key : ℕ) → IsSoundKey txns place key

-- whether a view has, for the transaction at a place, the list as a read showed it
abbrev pub is_known_for : View → ℕ → Bool
is_known_for view place = if view.place == place then view.is_known else false

-- the list of a view for the transaction at a place: empty where the view is not its own
abbrev pub list_for : View → ℕ → List ℕ
list_for view place = if view.place == place then view.list.items else []

-- for the transactions from a place on each view is empty
abbrev pub AreEmptyFrom : ℕ → List View → Type 0
AreEmptyFrom place views =
    (key : ℕ) (view : View) → slice_get views key ≡ Some view → (later : ℕ) → place ≤ later
    → (is_known_for view later ≡ false) × (list_for view later ≡ [])

-- A view is of the transaction at a place, is known or not, and has this list.
pub record IsViewWith (view : View) (reader : ℕ) (shown : Bool) (xs : List ℕ) : Type 0 where
  pub place : view.place ≡ reader
  pub known : view.is_known ≡ shown
  pub list : view.list.items ≡ xs

-- What a known list is before the micro-operation at an index: the one base of the reads so far, of
-- which there is one, and behind it the transaction's own appends so far.
pub record IsKnownList (txns : List Txn) (place index key : ℕ) (list : List ℕ) : Type 0 where
  pub base : List ℕ
  pub sound : IsSoundBase txns place key base
  pub is : list ≡ base ++ appends_before txns key place index
  pub reads : (earlier : ℕ) (seen : List ℕ) → earlier < index → Saw txns place earlier key seen
      → seen ≡ base ++ appends_before txns key place earlier
  pub first : (earlier : ℕ) × (earlier < index) × SawBase txns place earlier key base

-- What the list of a key is before the micro-operation at an index, known or not. Where it is not,
-- no read showed it yet, and it is the transaction's own appends so far.
abbrev pub IsListAt : List Txn → ℕ → ℕ → ℕ → Bool → List ℕ → Type 0
IsListAt txns place index key true list = IsKnownList txns place index key list
IsListAt txns place index key false list =
    (list ≡ appends_before txns key place index)
    × ((earlier : ℕ) (seen : List ℕ) → earlier < index → ¬ Saw txns place earlier key seen)

-- the views for the transaction at a place, before its micro-operation at an index
abbrev pub AreViewsAt : List Txn → ℕ → ℕ → List View → Type 0
AreViewsAt txns place index views =
    (key : ℕ) (view : View) → slice_get views key ≡ Some view
    → IsListAt txns place index key (is_known_for view place) (list_for view place)

-- nothing is wrong with a read, by the list that its transaction has, known or not
abbrev pub IsSoundRead : List Txn → ℕ → ℕ → Bool → List ℕ → List ℕ → Type 0
IsSoundRead txns place key true list seen = seen ≡ list
IsSoundRead txns place key false list seen =
    (base : List ℕ) × (seen ≡ base ++ list) × IsSoundBase txns place key base

-- what is wrong with a read, by the list that its transaction has, known or not
abbrev pub IsWrongRead : List Txn → ℕ → ℕ → Bool → List ℕ → List ℕ → BadRead → Type 0
IsWrongRead txns place key true list seen kind = (kind ≡ Internal) × (seen ≢ list)
IsWrongRead txns place key false list seen kind =
    ((kind ≡ Internal) × ((base : List ℕ) → seen ≢ base ++ list))
    ⊎ ((base : List ℕ) × (seen ≡ base ++ list) × IsWrongBase txns place key base kind)

-- the element that a table has just before another one, if there is one
abbrev pub previous_of : List (Option Writer) → ℕ → Option ℕ
previous_of table element =
    option_and_then (λ (writer : Writer). writer.previous) (writer_at table element)

-- some element of a list comes before the one that a table has just before it
abbrev pub IsOutOfTurn : List (Option Writer) → List ℕ → Type 0
IsOutOfTurn table list =
    (one other : ℕ) × (previous_of table other ≡ Some one) × ComesBefore list other one
