-- Snapshot orders of transactions (snapshot isolation: Berenson and others, "A critique of ANSI SQL
-- isolation levels", 1995; Cerone and Gotsman, "Analysing snapshot isolation", 2016; with real time
-- strong snapshot isolation: Daudjee and Salem, "Lazy database replication with snapshot
-- isolation", 2006). Each transaction stands there twice: where it starts, and where it commits.
use Rattle.std.specs.Prelude.{◌≡◌, ◌≢◌, ◌⊎◌, ℕ, Bool, true, List, [], ◌∷◌, ◌++◌}
use Rattle.jh_txn.specs.declared.txn.Point.{Point}
use Rattle.jh_txn.specs.declared.txn.Point.TheVariants.{Start, Commit}
use Rattle.jh_txn.specs.declared.txn.Txn.{Txn}
use Rattle.jh_txn.specs.RealTime.{PrecedesInTime}
use Rattle.jh_txn.specs.SerialOrders.{IsExplainedBy}
use Rattle.jh_txn.specs.Transactions.{IsDoneAt, IsPossibleAt, Appends}

-- the point stands among these
abbrev pub HasPoint : List Point → Point → Type 0
HasPoint [] point = ⊥
HasPoint (x ∷ points) point = (x ≡ point) ⊎ HasPoint points point

-- the first point stands among these, and the second one behind it
abbrev pub IsEarlier : List Point → Point → Point → Type 0
IsEarlier [] first second = ⊥
IsEarlier (x ∷ points) first second =
    ((x ≡ first) × HasPoint points second) ⊎ IsEarlier points first second

-- no point stands there twice
abbrev pub HasNoPointTwice : List Point → Type 0
HasNoPointTwice points = (point : Point) → ¬ IsEarlier points point point

-- whoever starts or commits does both, and starts before it commits
abbrev pub StartBeforeCommit : List Point → Type 0
StartBeforeCommit points =
    (place : ℕ) → HasPoint points (Start place) ⊎ HasPoint points (Commit place)
    → IsEarlier points (Start place) (Commit place)

-- the places of those that commit, in order
abbrev pub commits : List Point → List ℕ
commits [] = []
commits (Start place ∷ points) = commits points
commits (Commit place ∷ points) = place ∷ commits points

-- No two that append to one key overlap: one commits before the other one starts.
abbrev pub AreWritersApart : List Txn → List Point → Type 0
AreWritersApart txns points =
    (key one other first second : ℕ) → first ≢ second
    → Appends txns key one first → Appends txns key other second
    → HasPoint points (Start first) → HasPoint points (Start second)
    → IsEarlier points (Commit first) (Start second)
    ⊎ IsEarlier points (Commit second) (Start first)

-- Points of distinct transactions, each done one among them and none that failed. The lists change
-- where a transaction commits, by all its appends; each read sees the list of its key at its
-- transaction's start, and behind it what that one appended before. Writers of one key are apart.
pub record IsSnapshotOrder (txns : List Txn) (points : List Point) : Type 0 where
  pub distinct : HasNoPointTwice points
  pub paired : StartBeforeCommit points
  pub possible : (place : ℕ) → HasPoint points (Start place) → IsPossibleAt txns place
  pub whole : (place : ℕ) → IsDoneAt txns place → HasPoint points (Start place)
  pub reads : (front back : List Point) (place : ℕ) → points ≡ front ++ Start place ∷ back
      → IsExplainedBy txns (commits front) place
  pub apart : AreWritersApart txns points

-- A transaction that was done before another of the order was invoked commits before that one
-- starts.
abbrev pub KeepsRealTimeAt : List Txn → List Point → Type 0
KeepsRealTimeAt txns points =
    (first second : ℕ) → PrecedesInTime txns first second → HasPoint points (Start second)
    → IsEarlier points (Commit first) (Start second)

-- a snapshot order, which keeps real time where that is asked for
pub record IsSnapshotOrderFor (txns : List Txn) (real_time : Bool) (points : List Point)
    : Type 0 where
  pub snapshot : IsSnapshotOrder txns points
  pub timely : real_time ≡ true → KeepsRealTimeAt txns points
