-- What the definitions imply. Each law is proved as the clause of a function that does nothing. This
-- project's own.
use Rattle.std.specs.Prelude.{◌≡◌, ℕ, Bool, true, Option, List, ◌∷◌, ◌++◌}
use Rattle.jh_txn.specs.declared.dependency.Step.{Step}
use Rattle.jh_txn.specs.declared.dependency.Why.{Why}
use Rattle.jh_txn.specs.declared.model.ConsistencyModel.{ConsistencyModel}
use Rattle.jh_txn.specs.declared.txn.Point.{Point}
use Rattle.jh_txn.specs.declared.txn.Point.TheVariants.{Start}
use Rattle.jh_txn.specs.declared.txn.Txn.{Txn}
use Rattle.jh_txn.specs.BadReads.{HasNoBadRead}
use Rattle.jh_txn.specs.Cycles.{IsSnapshotCycle}
use Rattle.jh_txn.specs.Dependencies.{IsDependency}
use Rattle.jh_txn.specs.Keeping.{KeepsPointsOfDependencies, BeginOneAnother}
use Rattle.jh_txn.specs.Models.{is_of_snapshots, keeps_real_time}
use Rattle.jh_txn.specs.Next.{AreLongest}
use Rattle.jh_txn.specs.RealTime.{CompleteAfterInvocation}
use Rattle.jh_txn.specs.SerialOrders.{IsSerialOrderFor}
use Rattle.jh_txn.specs.SnapshotOrders.{HasNoPointTwice, IsSnapshotOrderFor, commits}
use Rattle.jh_txn.specs.Transactions.{AppendOnce, Saw, list_after, appends_before}
use Rattle.jh_txn_snapshots.specs.AtOnce.{at_once}
use Rattle.jh_txn_snapshots.specs.KeptPoints.{ArePointsOfAll, KeepsNextPoints, KeepsReadPoints}
use Rattle.jh_txn_snapshots.specs.NextPoints.{IsNextDependency}
use Rattle.jh_txn_snapshots.specs.Overlaps.{IsOverlap}
use Rattle.jh_txn_snapshots.specs.PointCycles.{IsPointCycle, dependency_steps}
use Rattle.jh_txn_snapshots.specs.SaidByReads.{ReadSays}
use Rattle.jh_txn_snapshots.specs.Untold.{AreUntoldApart, AreUntoldAtOnce, AreUntoldInTurn}

-- Where no read is bad, each next dependency is a dependency, with the same why.
abbrev pub NextPointsAreDependencies : Type 0
NextPointsAreDependencies =
    (txns : List Txn) (model : ConsistencyModel) (longest : ℕ → List ℕ) (why : Why)
    (first second : ℕ) → HasNoBadRead txns → AreLongest txns longest
    → IsNextDependency txns model longest why first second
    → IsDependency txns model why first second

-- For a model of snapshots points that keep the next dependencies keep all.
abbrev pub NextPointsSuffice : Type 0
NextPointsSuffice =
    (txns : List Txn) (model : ConsistencyModel) (longest : ℕ → List ℕ) (points : List Point)
    → AppendOnce txns → HasNoBadRead txns → is_of_snapshots model ≡ true
    → AreLongest txns longest → ArePointsOfAll txns points
    → KeepsNextPoints txns model longest points → KeepsPointsOfDependencies txns model points

-- So they are a snapshot order, where no two writers of a key overlap of which no read tells the
-- order.
abbrev pub NextPointsMakeSnapshotOrders : Type 0
NextPointsMakeSnapshotOrders =
    (txns : List Txn) (model : ConsistencyModel) (longest : ℕ → List ℕ) (points : List Point)
    → AppendOnce txns → CompleteAfterInvocation txns → HasNoBadRead txns
    → is_of_snapshots model ≡ true → AreLongest txns longest → ArePointsOfAll txns points
    → AreUntoldApart txns points → KeepsNextPoints txns model longest points
    → IsSnapshotOrderFor txns (keeps_real_time model) points

-- A serial order is a snapshot order, where each transaction starts and commits at once; and it keeps
-- real time as a snapshot order where it does so as a serial one.
abbrev pub SerialOrdersAreSnapshotOrders : Type 0
SerialOrdersAreSnapshotOrders =
    (txns : List Txn) (real_time : Bool) (order : List ℕ)
    → IsSerialOrderFor txns real_time order → IsSnapshotOrderFor txns real_time (at_once order)

-- Where each of these commits just behind its start, no two overlap.
abbrev pub UntoldAtOnceAreApart : Type 0
UntoldAtOnceAreApart =
    (txns : List Txn) (points : List Point) → HasNoPointTwice points
    → AreUntoldAtOnce txns points → AreUntoldApart txns points

-- Where those of each key stand in a list, each over before the next one starts, no two overlap.
abbrev pub UntoldInTurnAreApart : Type 0
UntoldInTurnAreApart =
    (txns : List Txn) (points : List Point) (turn : ℕ → List ℕ) → ArePointsOfAll txns points
    → AreUntoldInTurn txns points turn → AreUntoldApart txns points

-- Of a cycle of points the dependencies are a cycle in which no two `:rw` are neighbours.
abbrev pub PointCyclesAreSnapshotCycles : Type 0
PointCyclesAreSnapshotCycles =
    (txns : List Txn) (model : ConsistencyModel) (steps : List (Point × Option Why))
    → IsPointCycle txns model steps → IsSnapshotCycle txns model (dependency_steps steps)

-- Where two writers of a key have to overlap there is no snapshot order.
abbrev pub OverlapsExcludeSnapshotOrders : Type 0
OverlapsExcludeSnapshotOrders =
    (txns : List Txn) (model : ConsistencyModel) (points : List Point) (there back : List Step)
    (key one other first second : ℕ) → AppendOnce txns
    → IsOverlap txns model there back key one other first second
    → ¬ IsSnapshotOrderFor txns (keeps_real_time model) points

-- For a model of snapshots each dependency that a read says is one.
abbrev pub ReadsSayDependencies : Type 0
ReadsSayDependencies =
    (txns : List Txn) (model : ConsistencyModel) (place index key : ℕ) (seen : List ℕ)
    → is_of_snapshots model ≡ true → Saw txns place index key seen
    → ReadSays txns place key seen (IsDependency txns model)

-- Where no read is bad, points of all that must be there which keep what one read says explain that
-- read.
abbrev pub ReadPointsAreExplained : Type 0
ReadPointsAreExplained =
    (txns : List Txn) (points front back : List Point) (place index key : ℕ) (seen : List ℕ)
    → AppendOnce txns → HasNoBadRead txns → ArePointsOfAll txns points
    → points ≡ front ++ Start place ∷ back → Saw txns place index key seen
    → KeepsReadPoints txns points place key seen
    → seen ≡ list_after txns key (commits front) ++ appends_before txns key place index

-- Of two reads of a key of which such points keep what they say, one begins the other one. So of
-- two that do not, what they say has a cycle.
abbrev pub ReadPointsBeginOneAnother : Type 0
ReadPointsBeginOneAnother =
    (txns : List Txn) (points : List Point) (one index other at key : ℕ) (seen shown : List ℕ)
    → AppendOnce txns → HasNoBadRead txns → ArePointsOfAll txns points
    → Saw txns one index key seen → KeepsReadPoints txns points one key seen
    → Saw txns other at key shown → KeepsReadPoints txns points other key shown
    → BeginOneAnother seen shown
