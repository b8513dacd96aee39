-- What the parts of checking a snapshot order go by: proofs rest on it, and no public clause names
-- it. This project's own.
use Rattle.std.specs.Prelude.{◌≡◌, ◌⊎◌, ℕ, ◌<◌, Bool, true, false, List, [], ◌∷◌, ◌++◌}
use Rattle.std.specs.Prelude.{Option, Some, None, max, length, set, slice_index_or, Vec}
use Rattle.std.specs.declared.alloc.Global.{Global}
use Rattle.jh_txn.specs.declared.phases.Phase.{Phase}
use Rattle.jh_txn.specs.declared.phases.Phase.TheVariants.{New, Open, Over}
use Rattle.jh_txn.specs.declared.txn.MicroOp.{MicroOp}
use Rattle.jh_txn.specs.declared.txn.MicroOp.TheVariants.{Append, Read}
use Rattle.jh_txn.specs.declared.txn.Point.{Point}
use Rattle.jh_txn.specs.declared.txn.Point.TheVariants.{Start, Commit}
use Rattle.jh_txn.specs.declared.txn.Txn.{Txn}
use Rattle.jh_txn.specs.OrderCheckInside.{SawListAt}
use Rattle.jh_txn.specs.RealTime.{PrecedesInTime, IsDoneBefore, invoked_at}
use Rattle.jh_txn.specs.SerialOrders.{IsExplainedBy}
use Rattle.jh_txn.specs.SnapshotOrders.{HasPoint, IsEarlier, HasNoPointTwice, StartBeforeCommit}
use Rattle.jh_txn.specs.SnapshotOrders.{commits}
use Rattle.jh_txn.specs.Transactions.{IsDoneAt, IsPossibleAt, Appends, appended, includes, ops_at}

-- the phase of the transaction at a place, behind these points
abbrev pub IsPhase : List Point → ℕ → Phase → Type 0
IsPhase points place New =
    (HasPoint points (Start place) → ⊥) × (HasPoint points (Commit place) → ⊥)
IsPhase points place Open =
    HasPoint points (Start place) × (HasPoint points (Commit place) → ⊥)
IsPhase points place Over = IsEarlier points (Start place) (Commit place)

-- a phase for each place below a number
abbrev pub ArePhases : ℕ → List Point → List Phase → Type 0
ArePhases count points phases =
    (length phases ≡ count)
    × ((place : ℕ) → place < count → IsPhase points place (slice_index_or phases place New))

-- No point stands there twice, whoever commits started before, and all places are below a number.
pub record ArePointsInTurn (count : ℕ) (points : List Point) : Type 0 where
  pub distinct : HasNoPointTwice points
  pub started : (place : ℕ) → HasPoint points (Commit place)
      → IsEarlier points (Start place) (Commit place)
  pub below : (place : ℕ) → HasPoint points (Start place) → place < count

-- the points of distinct transactions, each done one among them and none that failed
pub record ArePlaced (txns : List Txn) (points : List Point) : Type 0 where
  pub distinct : HasNoPointTwice points
  pub paired : StartBeforeCommit points
  pub possible : (place : ℕ) → HasPoint points (Start place) → IsPossibleAt txns place
  pub whole : (place : ℕ) → IsDoneAt txns place → HasPoint points (Start place)

-- a transaction that ended in this phase is as it has to be
abbrev pub IsPhaseSettled : List Txn → ℕ → Phase → Type 0
IsPhaseSettled txns place New = ¬ IsDoneAt txns place
IsPhaseSettled txns place Open = ⊥
IsPhaseSettled txns place Over = IsPossibleAt txns place

-- the reads at a start, if it is one, are explained by those that committed before
abbrev pub IsExplainedPoint : List Txn → List Point → Point → Type 0
IsExplainedPoint txns front (Start place) = IsExplainedBy txns (commits front) place
IsExplainedPoint txns front (Commit place) = Unit {0}

-- the reads at a start, if it is one, saw these lists
abbrev pub SawListsAt : List Txn → List (Vec ℕ Global) → Point → Type 0
SawListsAt txns lists (Start place) =
    IsDoneAt txns place → (index : ℕ) → SawListAt lists (ops_at txns place) index
SawListsAt txns lists (Commit place) = Unit {0}

-- what changes the lists at a point: the micro-operations of a transaction that commits
abbrev pub ops_of_point : List Txn → Point → List MicroOp
ops_of_point txns (Start place) = []
ops_of_point txns (Commit place) = ops_at txns place

-- the transaction of a point
abbrev pub place_of_point : Point → ℕ
place_of_point (Start place) = place
place_of_point (Commit place) = place

-- the phase of its transaction before a point, and behind it
abbrev pub phase_before : Point → Phase
phase_before (Start place) = New
phase_before (Commit place) = Open

abbrev pub phase_behind : Point → Phase
phase_behind (Start place) = Open
phase_behind (Commit place) = Over

-- each start is explained
abbrev pub ExplainsStarts : List Txn → List Point → Type 0
ExplainsStarts txns points =
    (front back : List Point) (place : ℕ) → points ≡ front ++ Start place ∷ back
    → IsExplainedBy txns (commits front) place

-- a commit, if it is one, is that of a transaction that was done before this index
abbrev pub IsCommitLate : List Txn → ℕ → Point → Type 0
IsCommitLate txns latest (Start place) = ⊥
IsCommitLate txns latest (Commit place) = IsDoneBefore txns place latest

-- the latest invocation so far, behind a point
abbrev pub latest_behind : List Txn → ℕ → Point → ℕ
latest_behind txns latest (Start place) = max latest (invoked_at txns place)
latest_behind txns latest (Commit place) = latest

-- none commits that was done before one that started earlier was invoked
abbrev pub IsNoCommitTooLate : List Txn → List Point → Type 0
IsNoCommitTooLate txns points =
    (first second : ℕ) → PrecedesInTime txns first second
    → ¬ IsEarlier points (Start second) (Commit first)

-- a transaction may append to a key of which this one, if there is one, is the last writer: it is
-- that one itself, or that one is over
abbrev pub IsFreeOf : List Bool → ℕ → Option ℕ → Type 0
IsFreeOf over place None = Unit {0}
IsFreeOf over place (Some writer) = (writer ≡ place) ⊎ (slice_index_or over writer false ≡ true)

-- the last writer of a key, if there is one
abbrev pub last_writer : List (Option ℕ) → ℕ → Option ℕ
last_writer last key = slice_index_or last key None

-- a transaction may do this micro-operation
abbrev pub MayDo : List (Option ℕ) → List Bool → ℕ → MicroOp → Type 0
MayDo last over place (Append key element) = IsFreeOf over place (last_writer last key)
MayDo last over place (Read key seen) = Unit {0}

-- the last writers behind a micro-operation of a transaction
abbrev pub writers_behind : List (Option ℕ) → ℕ → MicroOp → List (Option ℕ)
writers_behind last place (Append key element) = set last key (Some place)
writers_behind last place (Read key seen) = last

-- a transaction may append all that these micro-operations append
abbrev pub MayDoAll : List (Option ℕ) → List Bool → ℕ → List MicroOp → Type 0
MayDoAll last over place ops =
    (key element : ℕ) → includes (appended key ops) element ≡ true
    → IsFreeOf over place (last_writer last key)

-- the last writers before and behind these micro-operations of a transaction
pub record AreWritersAfter (place : ℕ) (ops : List MicroOp) (old new : List (Option ℕ))
    : Type 0 where
  pub count : length new ≡ length old
  pub mine : (key element : ℕ) → includes (appended key ops) element ≡ true
      → last_writer new key ≡ Some place
  pub others : (key : ℕ) → appended key ops ≡ [] → last_writer new key ≡ last_writer old key

-- a transaction may start
abbrev pub MayPass : List Txn → List (Option ℕ) → List Bool → Point → Type 0
MayPass txns last over (Start place) = MayDoAll last over place (ops_at txns place)
MayPass txns last over (Commit place) = Unit {0}

-- the last writers before and behind a point
abbrev pub AreWritersBehind : List Txn → Point → List (Option ℕ) → List (Option ℕ) → Type 0
AreWritersBehind txns (Start place) old new = AreWritersAfter place (ops_at txns place) old new
AreWritersBehind txns (Commit place) old new = new ≡ old

-- which transactions are over behind a point
abbrev pub over_behind : List Bool → Point → List Bool
over_behind over (Start place) = over
over_behind over (Commit place) = set over place true

-- What is known of the last writers behind some points: each started and appends to its key, and of
-- those that started and append to a key each but the last is over.
pub record AreLastWriters (txns : List Txn) (points : List Point) (last : List (Option ℕ))
    : Type 0 where
  pub known : (key writer : ℕ) → last_writer last key ≡ Some writer
      → HasPoint points (Start writer) × ((element : ℕ) × Appends txns key element writer)
  pub open_one : (key element writer : ℕ) → HasPoint points (Start writer)
      → Appends txns key element writer
      → (last_writer last key ≡ Some writer) ⊎ HasPoint points (Commit writer)
