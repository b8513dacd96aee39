use Rattle.std.proofs.Common.{◌-◌, length}
use Rattle.jh_unique.specs.Walk.{HasComeTo}
use Rattle.jh_unique.proofs.walk.walk.Given as goal

abbrev pub invariant-walking : goal.invariant-walking
invariant-walking l = HasComeTo l.ops l.fn.initial l.cluster l.value.int l.numbers.items

abbrev pub decreases-walking : goal.decreases-walking
decreases-walking l = length l.ops - length l.numbers.items
