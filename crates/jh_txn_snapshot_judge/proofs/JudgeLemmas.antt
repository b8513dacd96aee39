-- What the judge's answers need.
use Rattle.std.proofs.Common.{◌≡◌, ℕ, Bool, true, false, Option, List, length, refl}
use Rattle.std.specs.Prelude.{Vec}
use Rattle.std.specs.declared.alloc.Global.{Global}
use Rattle.jh_txn.specs.declared.dependency.Step.{Step}
use Rattle.jh_txn.specs.declared.txn.Txn.{Txn}
use Rattle.jh_txn.specs.BadReads.{HasNoBadRead}
use Rattle.jh_txn.specs.Models.{is_of_snapshots, keeps_real_time}
use Rattle.jh_txn_points.specs.ForkGraph.{IsForkGraphOf}
use Rattle.jh_txn_points.specs.Laws.{IsForkGraphOfGood}
use Rattle.jh_txn_seen.specs.Marks.{AreThereMarks}
use Rattle.jh_txn_seen.specs.Reads.{AreDoneReads, AreForked}
use Rattle.jh_txn_seen.specs.declared.done_reads.DoneRead.{DoneRead}
use Rattle.jh_txn_snapshot_judge.specs.Judged.{snapshot_model}
use Rattle.jh_txn_writers.specs.Numbers.{AreNumbersOf}
use Rattle.jh_txn_writers.specs.Writers.{AreWriters}
use Rattle.jh_txn_writers.specs.declared.writer.Writer.{Writer}

pub asks_for : (flag : Bool) → keeps_real_time (snapshot_model flag) ≡ flag
asks_for true = refl
asks_for false = refl

pub of_snapshots : (flag : Bool) → is_of_snapshots (snapshot_model flag) ≡ true
of_snapshots true = refl
of_snapshots false = refl

-- what is known of the graph of two reads that fork
pub fork_good : (txns : List Txn) (keys elements : ℕ) (writers : List (Option Writer)) (reads : List DoneRead) (there : List Bool) (one other : DoneRead) (graph : List (Vec Step Global)) → AreNumbersOf txns keys elements → HasNoBadRead txns → AreWriters txns elements writers → AreDoneReads txns reads → AreThereMarks txns writers reads there → AreForked reads one other
    → IsForkGraphOf (length txns) writers there one other graph → IsForkGraphOfGood txns graph
fork_good txns keys elements writers reads there one other graph numbered good written done marked forked of_points = record {
  keys = keys;
  elements = elements;
  writers = writers;
  reads = reads;
  there = there;
  one = one;
  other = other;
  numbered = numbered;
  good = good;
  written = written;
  done = done;
  marked = marked;
  forked = forked;
  of_points = of_points;
}
