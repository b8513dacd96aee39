-- Two graphs: that of all transactions, and that of two reads that fork, with all of their steps. This
-- project's own.
use Rattle.std.specs.Prelude.{◌≡◌, ◌⊎◌, ◌↔◌, ℕ, ◌+◌, Bool, true, false, List, length, Option, Vec}
use Rattle.std.specs.declared.alloc.Global.{Global}
use Rattle.jh_txn.specs.Transactions.{includes}
use Rattle.jh_txn.specs.declared.dependency.Step.{Step}
use Rattle.jh_txn.specs.declared.dependency.Why.{Why}
use Rattle.jh_txn.specs.declared.txn.Txn.{Txn}
use Rattle.jh_txn_edges.specs.MiddleSteps.{IsMiddleStep}
use Rattle.jh_txn_edges.specs.Moments.{AreMoments, IsTimeStep}
use Rattle.jh_txn_edges.specs.Steps.{IsAlong, IsAlongStep, IsLackedStep, IsReadStep, IsShownStep}
use Rattle.jh_txn_graph.specs.Graphs.{HasStep}
use Rattle.jh_txn_seen.specs.Marks.{IsMarked, IsReadElement}
use Rattle.jh_txn_seen.specs.Middles.{AreMiddlesOf}
use Rattle.jh_txn_seen.specs.declared.done_reads.DoneRead.{DoneRead}
use Rattle.jh_txn_seen.specs.declared.middles.Middle.{Middle}
use Rattle.jh_txn_writers.specs.declared.writer.Writer.{Writer}

-- The nodes of a graph: transactions, a hub for each key, and a hub for each moment, where real time
-- is asked for; and what the marks and the middles say that its steps go by.
pub record IsGraphOf (txns : List Txn) (writers : List (Option Writer)) (there : List Bool)
    (reads : List DoneRead) (longest : List (Option DoneRead)) (real_time : Bool)
    (graph : List (Vec Step Global)) : Type 0 where
  pub marks : List Bool
  pub read : (element : ℕ) → IsMarked marks element ↔ IsReadElement longest element
  pub middles : List Middle
  pub middle : AreMiddlesOf txns marks longest reads (length reads) middles
  pub moments : List ℕ
  pub times : real_time ≡ true → AreMoments txns moments
  pub count : length graph ≡ length txns + length longest + length moments
  pub steps : (place : ℕ) (why : Why) (target : ℕ) → HasStep graph place why target
      ↔ (IsAlongStep writers longest place why target
      ⊎ (IsReadStep writers longest reads place why target
      ⊎ (IsMiddleStep writers there marks longest middles reads place why target
      ⊎ IsTimeStep txns there moments (length txns + length longest) real_time place why target)))

-- from the writer of an element that a read saw
abbrev pub IsAnyShownStep : List (Option Writer) → DoneRead → ℕ → Why → ℕ → Type 0
IsAnyShownStep writers read place why target =
    (element : ℕ) × (includes read.seen.now element ≡ true)
    × IsShownStep writers read element place why target

-- to the writer of an element that a read did not see, if that must be there
abbrev pub IsLackedThere
    : List (Option Writer) → List Bool → DoneRead → ℕ → ℕ → Why → ℕ → Type 0
IsLackedThere writers there read element place why target =
    (includes read.seen.now element ≡ false) × IsMarked there target
    × IsLackedStep writers read element place why target

-- to the writers of all that a read did not see
abbrev pub IsAnyLackedStep
    : List (Option Writer) → List Bool → DoneRead → ℕ → Why → ℕ → Type 0
IsAnyLackedStep writers there read place why target =
    (element : ℕ) × IsLackedThere writers there read element place why target

-- all that one read says
abbrev pub IsWholeReadStep
    : List (Option Writer) → List Bool → DoneRead → ℕ → Why → ℕ → Type 0
IsWholeReadStep writers there read place why target =
    IsAnyShownStep writers read place why target
    ⊎ (IsAlong writers read.key read.seen.now place why target
    ⊎ IsAnyLackedStep writers there read place why target)
