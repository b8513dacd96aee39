-- What the definitions imply, for transactions that append no element to a key twice. Each law is
-- proved as the clause of a function that does nothing. This project's own, but that cycles exclude
-- orders, and which: `specs/Cycles.antt` names the papers.
use Rattle.std.specs.Prelude.{◌≡◌, ◌≢◌, ◌⊎◌, ℕ, Bool, true, List, ◌∷◌, ◌++◌}
use Rattle.jh_txn.specs.declared.anomaly.BadRead.{BadRead}
use Rattle.jh_txn.specs.declared.dependency.Step.{Step}
use Rattle.jh_txn.specs.declared.model.ConsistencyModel.{ConsistencyModel}
use Rattle.jh_txn.specs.declared.txn.Point.{Point}
use Rattle.jh_txn.specs.declared.txn.Point.TheVariants.{Start, Commit}
use Rattle.jh_txn.specs.declared.txn.Txn.{Txn}
use Rattle.jh_txn.specs.BadReads.{IsBadRead, HasNoBadRead}
use Rattle.jh_txn.specs.Cycles.{IsCycle, IsSnapshotCycle}
use Rattle.jh_txn.specs.Dependencies.{MustBeThere}
use Rattle.jh_txn.specs.Keeping.{IsOfAll, KeepsDependencies, KeepsRead, BeginOneAnother}
use Rattle.jh_txn.specs.Keeping.{KeepsPoints, KeepsPointsOfDependencies}
use Rattle.jh_txn.specs.Models.{is_of_snapshots, keeps_real_time}
use Rattle.jh_txn.specs.Next.{AreLongest, KeepsNext, IsTold}
use Rattle.jh_txn.specs.RealTime.{CompleteAfterInvocation}
use Rattle.jh_txn.specs.SerialOrders.{IsSerialOrderFor}
use Rattle.jh_txn.specs.SnapshotOrders.{HasPoint, IsEarlier, IsSnapshotOrderFor}
use Rattle.jh_txn.specs.Transactions.{AppendOnce, Appends, Saw, includes}
use Rattle.jh_txn.specs.Transactions.{list_after, appends_before}

-- What must be there is in each serial order.
abbrev pub SerialOrdersIncludeAll : Type 0
SerialOrdersIncludeAll =
    (txns : List Txn) (real_time : Bool) (order : List ℕ) (place : ℕ) → AppendOnce txns
    → IsSerialOrderFor txns real_time order → MustBeThere txns place
    → includes order place ≡ true

-- Of a dependency the first transaction comes before the second one in each serial order.
abbrev pub SerialOrdersKeepDependencies : Type 0
SerialOrdersKeepDependencies =
    (txns : List Txn) (model : ConsistencyModel) (order : List ℕ) → AppendOnce txns
    → IsSerialOrderFor txns (keeps_real_time model) order → KeepsDependencies txns model order

-- What must be there is in each snapshot order.
abbrev pub SnapshotOrdersIncludeAll : Type 0
SnapshotOrdersIncludeAll =
    (txns : List Txn) (real_time : Bool) (points : List Point) (place : ℕ) → AppendOnce txns
    → IsSnapshotOrderFor txns real_time points → MustBeThere txns place
    → HasPoint points (Start place)

-- Of a dependency the first transaction commits before the second one starts in each snapshot
-- order, but where it is `:rw`: then it starts before the second one commits.
abbrev pub SnapshotOrdersKeepDependencies : Type 0
SnapshotOrdersKeepDependencies =
    (txns : List Txn) (model : ConsistencyModel) (points : List Point) → AppendOnce txns
    → IsSnapshotOrderFor txns (keeps_real_time model) points
    → KeepsPointsOfDependencies txns model points

-- Where a read is bad there is no serial order.
abbrev pub BadReadsExcludeSerialOrders : Type 0
BadReadsExcludeSerialOrders =
    (txns : List Txn) (real_time : Bool) (order : List ℕ) (place index : ℕ) (kind : BadRead)
    → AppendOnce txns → IsBadRead txns place index kind
    → ¬ IsSerialOrderFor txns real_time order

-- Where a read is bad there is no snapshot order.
abbrev pub BadReadsExcludeSnapshotOrders : Type 0
BadReadsExcludeSnapshotOrders =
    (txns : List Txn) (real_time : Bool) (points : List Point) (place index : ℕ) (kind : BadRead)
    → AppendOnce txns → IsBadRead txns place index kind
    → ¬ IsSnapshotOrderFor txns real_time points

-- Where there is a cycle there is no serial order.
abbrev pub CyclesExcludeSerialOrders : Type 0
CyclesExcludeSerialOrders =
    (txns : List Txn) (model : ConsistencyModel) (order : List ℕ) (steps : List Step)
    → AppendOnce txns → IsCycle txns model steps
    → ¬ IsSerialOrderFor txns (keeps_real_time model) order

-- Where there is a cycle in which no two `:rw` are neighbours there is no snapshot order.
abbrev pub SnapshotCyclesExcludeSnapshotOrders : Type 0
SnapshotCyclesExcludeSnapshotOrders =
    (txns : List Txn) (model : ConsistencyModel) (points : List Point) (steps : List Step)
    → AppendOnce txns → IsSnapshotCycle txns model steps
    → ¬ IsSnapshotOrderFor txns (keeps_real_time model) points

-- Where no read is bad, all that must be there, in an order that keeps each dependency, is a serial
-- order. So there is one exactly where no read is bad and the dependencies can be kept.
abbrev pub DependenciesMakeSerialOrders : Type 0
DependenciesMakeSerialOrders =
    (txns : List Txn) (model : ConsistencyModel) (order : List ℕ) → AppendOnce txns
    → CompleteAfterInvocation txns → HasNoBadRead txns → IsOfAll txns order
    → KeepsDependencies txns model order → IsSerialOrderFor txns (keeps_real_time model) order

-- Where no read is bad, points of all that must be there which keep each dependency, with writers
-- of one key apart, are a snapshot order.
abbrev pub DependenciesMakeSnapshotOrders : Type 0
DependenciesMakeSnapshotOrders =
    (txns : List Txn) (model : ConsistencyModel) (points : List Point) → AppendOnce txns
    → CompleteAfterInvocation txns → HasNoBadRead txns → KeepsPoints txns model points
    → IsSnapshotOrderFor txns (keeps_real_time model) points

-- Where no read is bad, an order of all that must be there which keeps what one read says explains
-- that read.
abbrev pub KeptReadsAreExplained : Type 0
KeptReadsAreExplained =
    (txns : List Txn) (order front back : List ℕ) (place index key : ℕ) (seen : List ℕ)
    → AppendOnce txns → HasNoBadRead txns → IsOfAll txns order
    → order ≡ front ++ place ∷ back → Saw txns place index key seen
    → KeepsRead txns order place key seen
    → seen ≡ list_after txns key front ++ appends_before txns key place index

-- Of two reads of a key of which such an order keeps what they say, one begins the other one. So of
-- two that do not, what they say has a cycle.
abbrev pub KeptReadsBeginOneAnother : Type 0
KeptReadsBeginOneAnother =
    (txns : List Txn) (order : List ℕ) (one index other at key : ℕ) (seen shown : List ℕ)
    → AppendOnce txns → HasNoBadRead txns → IsOfAll txns order
    → Saw txns one index key seen → KeepsRead txns order one key seen
    → Saw txns other at key shown → KeepsRead txns order other key shown
    → BeginOneAnother seen shown

-- An order that keeps the next dependencies keeps all.
abbrev pub NextDependenciesSuffice : Type 0
NextDependenciesSuffice =
    (txns : List Txn) (model : ConsistencyModel) (longest : ℕ → List ℕ) (order : List ℕ)
    → AppendOnce txns → HasNoBadRead txns → IsOfAll txns order → AreLongest txns longest
    → KeepsNext txns (keeps_real_time model) longest order → KeepsDependencies txns model order

-- Points that keep each dependency of a model of snapshots keep those writers apart of which the
-- reads tell the order.
abbrev pub ToldWritersAreApart : Type 0
ToldWritersAreApart =
    (txns : List Txn) (model : ConsistencyModel) (points : List Point) (longest : ℕ → List ℕ)
    (reader at key one other first second : ℕ)
    → AppendOnce txns → is_of_snapshots model ≡ true → AreLongest txns longest
    → Saw txns reader at key (longest key) → KeepsPointsOfDependencies txns model points
    → first ≢ second → Appends txns key one first → Appends txns key other second
    → MustBeThere txns first → MustBeThere txns second
    → IsTold txns key (longest key) one other first second
    → IsEarlier points (Commit first) (Start second)
    ⊎ IsEarlier points (Commit second) (Start first)
