use Rattle.std.proofs.Common.{◌≡◌, take}
use Rattle.std.specs.List.{filter_map}
use Rattle.jh_edn.specs.View.{views}
use Rattle.jh_ops.specs.Operation.{operations}
use Rattle.jh_fifo_check.specs.FifoHistories.{normal_moved_by}
use Rattle.jh_fifo_check.proofs.histories.values_through.Given as goal

abbrev pub invariant-loop-pair : goal.invariant-loop-pair
invariant-loop-pair l = views l.values.items ≡ filter_map (normal_moved_by (operations l.history)) (take l.pair-index l.pairs)
