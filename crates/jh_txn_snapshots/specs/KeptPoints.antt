-- Points of all transactions that must be there, and what they keep: the next dependencies, or what
-- one read says. This project's own.
use Rattle.std.specs.Prelude.{◌↔◌, ℕ, List}
use Rattle.jh_txn.specs.declared.dependency.Why.{Why}
use Rattle.jh_txn.specs.declared.model.ConsistencyModel.{ConsistencyModel}
use Rattle.jh_txn.specs.declared.txn.Point.{Point}
use Rattle.jh_txn.specs.declared.txn.Point.TheVariants.{Start}
use Rattle.jh_txn.specs.declared.txn.Txn.{Txn}
use Rattle.jh_txn.specs.Dependencies.{MustBeThere}
use Rattle.jh_txn.specs.Keeping.{leaves_at, arrives_at}
use Rattle.jh_txn.specs.SnapshotOrders.{HasPoint, IsEarlier, HasNoPointTwice, StartBeforeCommit}
use Rattle.jh_txn_snapshots.specs.NextPoints.{IsNextDependency}
use Rattle.jh_txn_snapshots.specs.SaidByReads.{ReadSays}

-- the points of all that must be there, each once and first the start
pub record ArePointsOfAll (txns : List Txn) (points : List Point) : Type 0 where
  pub distinct : HasNoPointTwice points
  pub paired : StartBeforeCommit points
  pub there : (place : ℕ) → HasPoint points (Start place) ↔ MustBeThere txns place

-- of each next dependency the point at which it leaves is earlier than the one at which it arrives
abbrev pub KeepsNextPoints : List Txn → ConsistencyModel → (ℕ → List ℕ) → List Point → Type 0
KeepsNextPoints txns model longest points =
    (why : Why) (first second : ℕ) → IsNextDependency txns model longest why first second
    → IsEarlier points (leaves_at why first) (arrives_at why second)

-- of each dependency that one read says, the same
abbrev pub KeepsReadPoints : List Txn → List Point → ℕ → ℕ → List ℕ → Type 0
KeepsReadPoints txns points place key seen =
    ReadSays txns place key seen
    (λ why first second. IsEarlier points (leaves_at why first) (arrives_at why second))
