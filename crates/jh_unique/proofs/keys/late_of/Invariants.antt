use Rattle.std.proofs.Common.{take}
use Rattle.jh_unique.specs.Keys.{IsLatest}
use Rattle.jh_unique.proofs.keys.late_of.Given as goal

abbrev pub invariant-loop-number : goal.invariant-loop-number
invariant-loop-number l = IsLatest l.ops (take l.number-index l.list) l.late
