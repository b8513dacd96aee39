use Rattle.std.proofs.Common.{take}
use Rattle.jh_ops.specs.Operation.{operations}
use Rattle.jh_txn_histories.specs.Histories.{IsRepeatedAt, appends_of_pairs}
use Rattle.jh_txn_histories.specs.ReadingInside.{AreNoted, IsLeastPlace}
use Rattle.jh_txn_histories.proofs.repeats.least_repeated.Given as goal

abbrev pub invariant-loop-pair : goal.invariant-loop-pair
invariant-loop-pair l = record {
  least : IsLeastPlace (IsRepeatedAt (operations l.history) (take l.pair-index l.pairs)) l.least;
  noted : AreNoted l.tables (appends_of_pairs (operations l.history) (take l.pair-index l.pairs));
}
