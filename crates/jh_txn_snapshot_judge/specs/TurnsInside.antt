-- The turns of untold writers, as the judge makes them: proofs rest on it, and no public clause names
-- it. `untold` marks the elements of untold writers. This project's own.
use Rattle.std.specs.Prelude.{◌≡◌, ◌≢◌, ◌⊎◌, ◌↔◌, ◌&&◌, ◌==◌, ℕ, ◌+◌, Bool, true, false, List}
use Rattle.std.specs.Prelude.{length, filter, Option, Some, None, slice_index_or, if◌then◌else◌}
use Rattle.std.specs.List.{Contains, list_any}
use Rattle.jh_txn.specs.declared.dependency.Why.{Why}
use Rattle.jh_txn.specs.declared.dependency.Why.TheVariants.{RealTime}
use Rattle.jh_txn.specs.declared.txn.MicroOp.{MicroOp}
use Rattle.jh_txn.specs.declared.txn.MicroOp.TheVariants.{Append, Read}
use Rattle.jh_txn.specs.declared.txn.Txn.{Txn}
use Rattle.jh_txn.specs.Dependencies.{MustBeThere}
use Rattle.jh_txn.specs.Transactions.{ComesBefore, ops_at}
use Rattle.jh_txn_seen.specs.Marks.{IsMarked}
use Rattle.jh_txn_snapshot_judge.specs.declared.turns.Succession.{Succession}
use Rattle.jh_txn_snapshots.specs.Untold.{IsUntold}
use Rattle.jh_txn_writers.specs.Writers.{AreNeighbours, EndsWith}

-- an untold writer that must be there appends the element
abbrev pub IsUntoldElement : List Txn → ℕ → Type 0
IsUntoldElement txns element =
    (key place : ℕ) × IsUntold txns key element place × MustBeThere txns place

-- the marks are those of such elements
abbrev pub AreUntoldMarks : List Txn → List Bool → Type 0
AreUntoldMarks txns untold =
    (element : ℕ) → IsMarked untold element ↔ IsUntoldElement txns element

-- whether a micro-operation appends a marked element to the key
abbrev pub is_append_of : List Bool → ℕ → MicroOp → Bool
is_append_of untold key (Append other element) =
    (other == key) && slice_index_or untold element false
is_append_of untold key (Read other seen) = false

-- whether one of them does
abbrev pub has_append_of : List Bool → ℕ → List MicroOp → Bool
has_append_of untold key ops = list_any (is_append_of untold key) ops

-- whether the transaction at a place is an untold writer of the key; past the last one there is none
abbrev pub is_untold_writer : List Txn → List Bool → ℕ → ℕ → Bool
is_untold_writer txns untold key place = has_append_of untold key (ops_at txns place)

-- The turn of a key: its untold writers, in the order in which their starts stand among nodes.
abbrev pub turn_of : List Txn → List Bool → List ℕ → ℕ → List ℕ
turn_of txns untold nodes key = filter (is_untold_writer txns untold key) nodes

-- two writers of which the second one has its turn just behind the first one
abbrev pub IsTurn : List Txn → List Bool → List ℕ → Succession → Type 0
IsTurn txns untold nodes turn =
    (turn.first ≢ turn.second)
    × (key : ℕ) × AreNeighbours (turn_of txns untold nodes key) turn.first turn.second

-- a table has who is the last one in the turn of each key
abbrev pub AreLastInTurn : List Txn → List Bool → List ℕ → List (Option ℕ) → Type 0
AreLastInTurn txns untold nodes last =
    (key place : ℕ) → (slice_index_or last key None ≡ Some place)
    ↔ EndsWith (turn_of txns untold nodes key) place

-- the turns are old ones, or these
abbrev pub AddsTurns : (Succession → Type 0) → List Succession → List Succession → Type 0
AddsTurns turns old new =
    (turn : Succession) → Contains new turn ↔ (Contains old turn ⊎ turns turn)

-- the second one is at a place, behind another one, if there is one
abbrev pub IsTurnBehind : Option ℕ → ℕ → Succession → Type 0
IsTurnBehind first place turn =
    (turn.second ≡ place) × (turn.first ≢ place) × (first ≡ Some turn.first)

-- it is behind the last one of a key to which some micro-operations append a marked element
abbrev pub IsTurnAt
    : List Bool → ℕ → List MicroOp → List (Option ℕ) → Succession → Type 0
IsTurnAt untold place ops last turn =
    (key : ℕ) × (has_append_of untold key ops ≡ true)
    × IsTurnBehind (slice_index_or last key None) place turn

-- The transaction at a place, with these micro-operations, has its turn in each key to which it
-- appends a marked element: `last` and `old` become `now` and `new`.
pub record TakesTurns (untold : List Bool) (place : ℕ) (ops : List MicroOp)
    (last now : List (Option ℕ)) (old new : List Succession) : Type 0 where
  pub count : length now ≡ length last
  pub noted : (key : ℕ) → slice_index_or now key None
      ≡ (if has_append_of untold key ops then Some place else slice_index_or last key None)
  pub turns : AddsTurns (IsTurnAt untold place ops last) old new

-- from the commit of the first writer of a turn to the start of the second one
abbrev pub IsTurnStep : ℕ → Succession → ℕ → Why → ℕ → Type 0
IsTurnStep count turn place why target =
    (place ≡ count + turn.first) × (why ≡ RealTime) × (target ≡ turn.second)

-- one of those steps
abbrev pub IsAnyTurnStep : ℕ → List Succession → ℕ → Why → ℕ → Type 0
IsAnyTurnStep count turns place why target =
    (turn : Succession) × Contains turns turn × IsTurnStep count turn place why target

-- nodes keep the turns of an order: each writer commits before the next one starts
abbrev pub KeepsTurns : List Txn → List Bool → List ℕ → List ℕ → Type 0
KeepsTurns txns untold order nodes =
    (turn : Succession) → IsTurn txns untold order turn
    → ComesBefore nodes (length txns + turn.first) turn.second

-- there is a turn of two writers
abbrev pub HasTurn : List Txn → List Bool → List ℕ → Type 0
HasTurn txns untold nodes = (turn : Succession) × IsTurn txns untold nodes turn
