-- Orders of all transactions that must be there, judged by their dependencies alone. This project's
-- own; `specs/Laws.antt` says that where no read is bad these are serial and snapshot orders.
use Rattle.std.specs.Prelude.{◌≡◌, ◌≢◌, ◌⊎◌, ◌↔◌, ℕ, true, false, List, ◌++◌}
use Rattle.std.specs.Prelude.{if◌then◌else◌}
use Rattle.jh_txn.specs.declared.dependency.Why.{Why}
use Rattle.jh_txn.specs.declared.model.ConsistencyModel.{ConsistencyModel}
use Rattle.jh_txn.specs.declared.txn.Point.{Point}
use Rattle.jh_txn.specs.declared.txn.Point.TheVariants.{Start, Commit}
use Rattle.jh_txn.specs.declared.txn.Txn.{Txn}
use Rattle.jh_txn.specs.Cycles.{is_read_write}
use Rattle.jh_txn.specs.Dependencies.{IsDependency, MustBeThere}
use Rattle.jh_txn.specs.SnapshotOrders.{HasPoint, IsEarlier, HasNoPointTwice, StartBeforeCommit}
use Rattle.jh_txn.specs.SnapshotOrders.{AreWritersApart}
use Rattle.jh_txn.specs.Transactions.{Appends, includes, ComesBefore, HasNoRepeat}

-- all that must be there, each once
pub record IsOfAll (txns : List Txn) (order : List ℕ) : Type 0 where
  pub distinct : HasNoRepeat order
  pub there : (place : ℕ) → (includes order place ≡ true) ↔ MustBeThere txns place

-- of each dependency the first transaction comes before the second one
abbrev pub KeepsDependencies : List Txn → ConsistencyModel → List ℕ → Type 0
KeepsDependencies txns model order =
    (why : Why) (first second : ℕ) → IsDependency txns model why first second
    → ComesBefore order first second

-- What one read says of an order: the writers of what it shows come before the reader, and in the
-- order of what they wrote; the reader comes before the writers of what it does not show.
pub record KeepsRead (txns : List Txn) (order : List ℕ) (place key : ℕ) (seen : List ℕ)
    : Type 0 where
  pub shown : (element writer : ℕ) → includes seen element ≡ true
      → Appends txns key element writer → writer ≢ place → ComesBefore order writer place
  pub lacked : (element writer : ℕ) → includes seen element ≡ false
      → Appends txns key element writer → MustBeThere txns writer → writer ≢ place
      → ComesBefore order place writer
  pub in_turn : (one other first second : ℕ) → ComesBefore seen one other
      → Appends txns key one first → Appends txns key other second → first ≢ second
      → ComesBefore order first second

-- one list begins the other one
abbrev pub BeginOneAnother : List ℕ → List ℕ → Type 0
BeginOneAnother xs ys =
    ((rest : List ℕ) × (ys ≡ xs ++ rest)) ⊎ ((rest : List ℕ) × (xs ≡ ys ++ rest))

-- The point of its first transaction at which a dependency leaves: the start where it is `:rw`,
-- else the commit.
abbrev pub leaves_at : Why → ℕ → Point
leaves_at why place = if is_read_write why then Start place else Commit place

-- The point of its second transaction at which it arrives: the commit where it is `:rw`, else the
-- start.
abbrev pub arrives_at : Why → ℕ → Point
arrives_at why place = if is_read_write why then Commit place else Start place

-- of each dependency the point at which it leaves is earlier than the one at which it arrives
abbrev pub KeepsPointsOfDependencies : List Txn → ConsistencyModel → List Point → Type 0
KeepsPointsOfDependencies txns model points =
    (why : Why) (first second : ℕ) → IsDependency txns model why first second
    → IsEarlier points (leaves_at why first) (arrives_at why second)

-- The points of all that must be there, each once and first the start, with writers of one key
-- apart, which keep each dependency.
pub record KeepsPoints (txns : List Txn) (model : ConsistencyModel) (points : List Point)
    : Type 0 where
  pub distinct : HasNoPointTwice points
  pub paired : StartBeforeCommit points
  pub there : (place : ℕ) → HasPoint points (Start place) ↔ MustBeThere txns place
  pub apart : AreWritersApart txns points
  pub kept : KeepsPointsOfDependencies txns model points
