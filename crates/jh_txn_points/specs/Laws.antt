-- What the graph of points says of a history. Each law is proved as the clause of a function that does
-- nothing. This project's own.
use Rattle.std.specs.Prelude.{◌≡◌, ◌⊎◌, ℕ, ◌+◌, ◌<◌, Bool, true, List, length, Option, Vec}
use Rattle.std.specs.declared.alloc.Global.{Global}
use Rattle.jh_txn.specs.declared.dependency.Step.{Step}
use Rattle.jh_txn.specs.declared.dependency.Why.{Why}
use Rattle.jh_txn.specs.declared.model.ConsistencyModel.{ConsistencyModel}
use Rattle.jh_txn.specs.declared.txn.Point.TheVariants.{Start, Commit}
use Rattle.jh_txn.specs.declared.txn.Txn.{Txn}
use Rattle.jh_txn.specs.BadReads.{HasNoBadRead}
use Rattle.jh_txn.specs.Dependencies.{IsDependency}
use Rattle.jh_txn.specs.Keeping.{leaves_at, arrives_at}
use Rattle.jh_txn.specs.Models.{is_of_snapshots, keeps_real_time}
use Rattle.jh_txn.specs.RealTime.{CompleteAfterInvocation}
use Rattle.jh_txn.specs.Transactions.{ComesBefore}
use Rattle.jh_txn_graph.specs.Graphs.{AreHubsUpwards, HasPath, IsClosed, KeepsPaths}
use Rattle.jh_txn_points.specs.ForkGraph.{IsForkGraphOf}
use Rattle.jh_txn_points.specs.PointGraph.{IsPointGraphOf}
use Rattle.jh_txn_points.specs.Points.{node_of_point}
use Rattle.jh_txn_seen.specs.Marks.{AreThereMarks}
use Rattle.jh_txn_seen.specs.Reads.{AreDoneReads, AreForked, AreLongestOf, longest_of}
use Rattle.jh_txn_seen.specs.declared.done_reads.DoneRead.{DoneRead}
use Rattle.jh_txn_snapshots.specs.NextPoints.{IsNextDependency}
use Rattle.jh_txn_writers.specs.Numbers.{AreNumbersOf}
use Rattle.jh_txn_writers.specs.Writers.{AreWriters}
use Rattle.jh_txn_writers.specs.declared.writer.Writer.{Writer}

-- Numbered transactions of which no read is bad, the tables of them, and the graph of their points.
pub record IsPointGraphOfGood (txns : List Txn) (real_time : Bool) (longest : List (Option DoneRead))
    (graph : List (Vec Step Global)) : Type 0 where
  pub elements : ℕ
  pub writers : List (Option Writer)
  pub reads : List DoneRead
  pub there : List Bool
  pub numbered : AreNumbersOf txns (length longest) elements
  pub ends : CompleteAfterInvocation txns
  pub good : HasNoBadRead txns
  pub written : AreWriters txns elements writers
  pub done : AreDoneReads txns reads
  pub marked : AreThereMarks txns writers reads there
  pub begun : AreLongestOf reads (length reads) longest
  pub of_points : IsPointGraphOf txns writers there reads longest real_time graph

-- from the start of a transaction to its commit, or from where a dependency leaves to where it
-- arrives
abbrev pub IsStepOfNodes : List Txn → ConsistencyModel → ℕ → Why → ℕ → Type 0
IsStepOfNodes txns model from why to =
    ((place : ℕ) × (from ≡ node_of_point (length txns) (Start place))
    × (to ≡ node_of_point (length txns) (Commit place)))
    ⊎ ((first second : ℕ) × IsDependency txns model why first second
    × (from ≡ node_of_point (length txns) (leaves_at why first))
    × (to ≡ node_of_point (length txns) (arrives_at why second)))

-- The paths of the graph between points are dependencies, or from a start to its commit.
abbrev pub PathsAreDependencies : Type 0
PathsAreDependencies =
    (txns : List Txn) (model : ConsistencyModel) (longest : List (Option DoneRead))
    (graph : List (Vec Step Global)) (from : ℕ) (why : Why) (to : ℕ)
    → is_of_snapshots model ≡ true
    → IsPointGraphOfGood txns (keeps_real_time model) longest graph
    → from < length txns + length txns → to < length txns + length txns
    → HasPath graph (length txns + length txns) from why to → IsStepOfNodes txns model from why to

-- An order of the nodes that keeps the paths keeps the next dependencies.
abbrev pub OrdersKeepNextDependencies : Type 0
OrdersKeepNextDependencies =
    (txns : List Txn) (model : ConsistencyModel) (longest : List (Option DoneRead))
    (graph : List (Vec Step Global)) (order : List ℕ) (why : Why) (first second : ℕ)
    → IsPointGraphOfGood txns (keeps_real_time model) longest graph
    → KeepsPaths graph (length txns + length txns) order
    → IsNextDependency txns model (longest_of longest) why first second
    → ComesBefore order (node_of_point (length txns) (leaves_at why first))
    (node_of_point (length txns) (arrives_at why second))

-- It has each start before its commit.
abbrev pub OrdersStartBeforeCommit : Type 0
OrdersStartBeforeCommit =
    (txns : List Txn) (real_time : Bool) (longest : List (Option DoneRead))
    (graph : List (Vec Step Global)) (order : List ℕ) (place : ℕ)
    → IsPointGraphOfGood txns real_time longest graph
    → KeepsPaths graph (length txns + length txns) order → place < length txns
    → ComesBefore order (node_of_point (length txns) (Start place)) (node_of_point (length txns) (Commit place))

-- Each step comes from a node, and hubs lead to higher ones alone, as the search of a graph asks for.
abbrev pub GraphsAreSearchable : Type 0
GraphsAreSearchable =
    (txns : List Txn) (real_time : Bool) (longest : List (Option DoneRead))
    (graph : List (Vec Step Global)) → IsPointGraphOfGood txns real_time longest graph
    → IsClosed graph × AreHubsUpwards graph (length txns + length txns)

-- Numbered transactions of which no read is bad, the tables of them, two of their reads that fork, and
-- the graph of what these say.
pub record IsForkGraphOfGood (txns : List Txn) (graph : List (Vec Step Global)) : Type 0 where
  pub keys : ℕ
  pub elements : ℕ
  pub writers : List (Option Writer)
  pub reads : List DoneRead
  pub there : List Bool
  pub one : DoneRead
  pub other : DoneRead
  pub numbered : AreNumbersOf txns keys elements
  pub good : HasNoBadRead txns
  pub written : AreWriters txns elements writers
  pub done : AreDoneReads txns reads
  pub marked : AreThereMarks txns writers reads there
  pub forked : AreForked reads one other
  pub of_points : IsForkGraphOf (length txns) writers there one other graph

-- The paths of that graph are dependencies for each model of snapshots, or from a start to its commit.
abbrev pub ForkPathsAreDependencies : Type 0
ForkPathsAreDependencies =
    (txns : List Txn) (model : ConsistencyModel) (graph : List (Vec Step Global)) (from : ℕ)
    (why : Why) (to : ℕ) → is_of_snapshots model ≡ true → IsForkGraphOfGood txns graph
    → HasPath graph (length txns + length txns) from why to → IsStepOfNodes txns model from why to

-- No order of the nodes keeps the paths of that graph.
abbrev pub ForksHaveNoOrder : Type 0
ForksHaveNoOrder =
    (txns : List Txn) (graph : List (Vec Step Global)) (order : List ℕ)
    → IsForkGraphOfGood txns graph → ¬ KeepsPaths graph (length txns + length txns) order

-- That graph has no hubs, and can be searched.
abbrev pub ForkGraphsAreSearchable : Type 0
ForkGraphsAreSearchable =
    (txns : List Txn) (graph : List (Vec Step Global)) → IsForkGraphOfGood txns graph
    → IsClosed graph × AreHubsUpwards graph (length txns + length txns)
