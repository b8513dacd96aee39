use Rattle.std.specs.Prelude.{◌≡◌, map, take}
use Rattle.jh_edn.specs.Edn.{int}
use Rattle.jh_edn.specs.View.{views}
use Rattle.jh_ops.proofs.call.vector_of.Given as goal

abbrev pub invariant-loop-number : goal.invariant-loop-number
invariant-loop-number l = views l.values.items ≡ map int (take l.number-index l.numbers)
