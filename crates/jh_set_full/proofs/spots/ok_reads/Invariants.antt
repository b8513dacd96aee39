use Rattle.std.proofs.Common.{◌≡◌, take}
use Rattle.std.specs.List.{filter}
use Rattle.jh_ops.specs.Operation.{operations}
use Rattle.jh_check.specs.CounterResults.{is_ok_read}
use Rattle.jh_set_full.proofs.spots.ok_reads.Given as goal

abbrev pub invariant-loop-pair : goal.invariant-loop-pair
invariant-loop-pair l = l.reads.items ≡ filter (is_ok_read (operations l.history)) (take l.pair-index l.pairs)
