use Rattle.std.proofs.Common.{◌≡◌, take, map}
use Rattle.jh_check.specs.CounterResults.{end_place}
use Rattle.jh_check.proofs.counter.read_ends.Given as goal

abbrev pub invariant-loop-read : goal.invariant-loop-read
invariant-loop-read l = l.ends.items ≡ map end_place (take l.read-index l.read-items)
