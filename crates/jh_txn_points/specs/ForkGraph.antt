-- The graph of two reads that fork: all that they say of starts and commits. `count` is how many
-- transactions there are. This project's own.
use Rattle.std.specs.Prelude.{◌≡◌, ◌≢◌, ◌⊎◌, ◌↔◌, ℕ, ◌+◌, ◌<◌, Bool, false, List, length, Option}
use Rattle.std.specs.Prelude.{Some, Vec}
use Rattle.std.specs.declared.alloc.Global.{Global}
use Rattle.jh_txn.specs.Keeping.{leaves_at, arrives_at}
use Rattle.jh_txn.specs.Transactions.{includes}
use Rattle.jh_txn.specs.declared.dependency.Step.{Step}
use Rattle.jh_txn.specs.declared.dependency.Why.{Why}
use Rattle.jh_txn.specs.declared.dependency.Why.TheVariants.{FirstCommitter}
use Rattle.jh_txn_edges.specs.Graph.{IsWholeReadStep}
use Rattle.jh_txn_graph.specs.Graphs.{HasStep}
use Rattle.jh_txn_points.specs.PointSteps.{IsCommitStep}
use Rattle.jh_txn_points.specs.Points.{node_of_point}
use Rattle.jh_txn_seen.specs.Marks.{IsMarked}
use Rattle.jh_txn_seen.specs.Places.{writer_place}
use Rattle.jh_txn_seen.specs.declared.done_reads.DoneRead.{DoneRead}
use Rattle.jh_txn_writers.specs.declared.writer.Writer.{Writer}

-- a step between transactions that a read says, from where it leaves to where it arrives
abbrev pub IsReadPointStep
    : ℕ → List (Option Writer) → List Bool → DoneRead → ℕ → Why → ℕ → Type 0
IsReadPointStep count writers there read place why target =
    (first second : ℕ) × IsWholeReadStep writers there read first why second
    × (place ≡ node_of_point count (leaves_at why first))
    × (target ≡ node_of_point count (arrives_at why second))

-- the first element of the table that the reader itself appends to the key of its read
abbrev pub IsFirstOwn : List (Option Writer) → DoneRead → ℕ → Type 0
IsFirstOwn writers read own =
    (writer_place writers read.key own ≡ Some read.place)
    × ((element : ℕ) → element < own → writer_place writers read.key element ≢ Some read.place)

-- First committer wins: from the commit of a reader that appends an element to the key itself, to
-- the start of another one that appends to the key what the read did not see, if that must be there.
abbrev pub IsWinStep
    : ℕ → List (Option Writer) → List Bool → DoneRead → ℕ → ℕ → ℕ → Why → ℕ → Type 0
IsWinStep count writers there read own element place why target =
    (includes read.seen.now element ≡ false) × IsMarked there target × (target ≢ read.place)
    × (writer_place writers read.key element ≡ Some target)
    × (place ≡ count + read.place) × (why ≡ FirstCommitter read.key own)

-- those to the writers of all that a read did not see
abbrev pub IsWinStepOf
    : ℕ → List (Option Writer) → List Bool → DoneRead → ℕ → ℕ → Why → ℕ → Type 0
IsWinStepOf count writers there read own place why target =
    (element : ℕ) × IsWinStep count writers there read own element place why target

-- the same, where the reader appends to the key itself
abbrev pub IsAnyWinStep
    : ℕ → List (Option Writer) → List Bool → DoneRead → ℕ → Why → ℕ → Type 0
IsAnyWinStep count writers there read place why target =
    (own : ℕ) × IsFirstOwn writers read own
    × IsWinStepOf count writers there read own place why target

-- all that one read says of points
abbrev pub IsWholeReadPointStep
    : ℕ → List (Option Writer) → List Bool → DoneRead → ℕ → Why → ℕ → Type 0
IsWholeReadPointStep count writers there read place why target =
    IsReadPointStep count writers there read place why target
    ⊎ IsAnyWinStep count writers there read place why target

-- The nodes of a graph: starts and commits. Its steps: all that two reads say, and from each start
-- to the commit.
pub record IsForkGraphOf (count : ℕ) (writers : List (Option Writer)) (there : List Bool)
    (one other : DoneRead) (graph : List (Vec Step Global)) : Type 0 where
  pub nodes : length graph ≡ count + count
  pub steps : (place : ℕ) (why : Why) (target : ℕ) → HasStep graph place why target
      ↔ (IsWholeReadPointStep count writers there one place why target
      ⊎ (IsWholeReadPointStep count writers there other place why target
      ⊎ IsCommitStep count place why target))
