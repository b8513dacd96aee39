use Rattle.std.proofs.Common.{◌≡◌, take, not}
use Rattle.std.specs.List.{filter}
use Rattle.jh_check.specs.CounterResults.{is_in_bounds}
use Rattle.jh_check.proofs.counter.errors_of.Given as goal

abbrev pub invariant-loop-read : goal.invariant-loop-read
invariant-loop-read l = l.errors.items ≡ filter (λ read. not (is_in_bounds read)) (take l.read-index l.reads)
