use Rattle.std.proofs.Common.{take}
use Rattle.jh_unique.specs.Keys.{IsSoonest}
use Rattle.jh_unique.proofs.keys.soon_of.Given as goal

abbrev pub invariant-loop-number : goal.invariant-loop-number
invariant-loop-number l = IsSoonest l.ops (take l.number-index l.list) l.soon
