use Rattle.std.proofs.Common.{◌≡◌, take, map}
use Rattle.jh_ops.specs.Operation.{operations}
use Rattle.jh_check.specs.CounterResults.{bounds_of}
use Rattle.jh_check.proofs.counter.bounded_reads.Given as goal

abbrev pub invariant-loop-read : goal.invariant-loop-read
invariant-loop-read l = l.bounded.items ≡ map (bounds_of (operations l.history) l.pairs) (take l.read-index l.read-items)
