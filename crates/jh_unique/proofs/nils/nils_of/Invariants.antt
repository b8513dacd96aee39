use Rattle.std.proofs.Common.{take}
use Rattle.jh_unique.specs.Nils.{IsNilRead}
use Rattle.jh_unique.specs.Sorted.{ArePicked}
use Rattle.jh_unique.proofs.nils.nils_of.Given as goal

abbrev pub invariant-loop-number : goal.invariant-loop-number
invariant-loop-number l = ArePicked (IsNilRead l.ops) (take l.number-index l.turn) l.nils.items
