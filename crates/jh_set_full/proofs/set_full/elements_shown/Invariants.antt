use Rattle.std.proofs.Common.{◌≡◌, take}
use Rattle.jh_edn.specs.View.{views}
use Rattle.jh_ops.specs.Operation.{operations}
use Rattle.jh_set_full.specs.SetFull.{all_shown}
use Rattle.jh_set_full.proofs.set_full.elements_shown.Given as goal

abbrev pub invariant-loop-pair : goal.invariant-loop-pair
invariant-loop-pair l = views l.values.items ≡ all_shown (operations l.history) (take l.pair-index l.pairs)
