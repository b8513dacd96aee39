-- The graph of starts and commits, with all of its steps. This project's own.
use Rattle.std.specs.Prelude.{◌≡◌, ◌⊎◌, ◌↔◌, ℕ, ◌+◌, Bool, List, length, Option, Vec}
use Rattle.std.specs.declared.alloc.Global.{Global}
use Rattle.jh_txn.specs.declared.dependency.Step.{Step}
use Rattle.jh_txn.specs.declared.dependency.Why.{Why}
use Rattle.jh_txn.specs.declared.txn.Txn.{Txn}
use Rattle.jh_txn_edges.specs.Graph.{IsGraphOf}
use Rattle.jh_txn_graph.specs.Graphs.{HasStep}
use Rattle.jh_txn_points.specs.PointSteps.{IsAnyHubStep, IsAnyUnreadPointStep, IsCommitStep, IsKeptStep}
use Rattle.jh_txn_seen.specs.Marks.{IsMarked, IsReadElement}
use Rattle.jh_txn_seen.specs.Middles.{AreMiddlesOf}
use Rattle.jh_txn_seen.specs.declared.done_reads.DoneRead.{DoneRead}
use Rattle.jh_txn_seen.specs.declared.middles.Middle.{Middle}
use Rattle.jh_txn_writers.specs.declared.writer.Writer.{Writer}

-- The nodes of a graph: starts, commits, a hub for each key, and a hub for each moment, where real
-- time is asked for. Its steps: those of the graph of transactions, but for those of hubs of keys;
-- from each start to the commit; from the starts of those who read all of a key to its hub; and to
-- the writers of what nobody read.
pub record IsPointGraphOf (txns : List Txn) (writers : List (Option Writer)) (there : List Bool)
    (reads : List DoneRead) (longest : List (Option DoneRead)) (real_time : Bool)
    (graph : List (Vec Step Global)) : Type 0 where
  pub edges : List (Vec Step Global)
  pub of_txns : IsGraphOf txns writers there reads longest real_time edges
  pub marks : List Bool
  pub read : (element : ℕ) → IsMarked marks element ↔ IsReadElement longest element
  pub middles : List Middle
  pub middle : AreMiddlesOf txns marks longest reads (length reads) middles
  pub count : length graph ≡ length txns + length edges
  pub steps : (place : ℕ) (why : Why) (target : ℕ) → HasStep graph place why target
      ↔ (IsKeptStep (length txns) (length longest) edges place why target
      ⊎ (IsCommitStep (length txns) place why target
      ⊎ (IsAnyHubStep (length txns) longest reads place why target
      ⊎ IsAnyUnreadPointStep (length txns) writers there marks longest middles place why target)))
