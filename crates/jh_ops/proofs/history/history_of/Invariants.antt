use Rattle.std.specs.Prelude.{All}
use Rattle.std.specs.Vec.Iter.{into_iter_items, into_iter_len}
use Rattle.jh_edn.specs.View.{views}
use Rattle.jh_ops.specs.Operation.{operations}
use Rattle.jh_ops.specs.OperationWritten.{IsWritable}
use Rattle.jh_ops.proofs.HistoryLemmas.{Parsed}
use Rattle.jh_ops.proofs.history.history_of.Given as goal

abbrev pub invariant-loop-value : goal.invariant-loop-value
invariant-loop-value l = record {
  parsed : Parsed (views l.fn.values.items) (operations l.ops.items) (views (into_iter_items l.rest));
  writable : All (λ op. IsWritable op.process) l.ops.items;
}

abbrev pub decreases-loop-value : goal.decreases-loop-value
decreases-loop-value l = into_iter_len l.rest
