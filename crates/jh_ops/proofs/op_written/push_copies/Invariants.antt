use Rattle.std.proofs.Common.{◌≡◌, ◌++◌, take}
use Rattle.jh_edn.specs.View.{view_pairs}
use Rattle.jh_ops.proofs.op_written.push_copies.Given as goal

abbrev pub invariant-loop-pair : goal.invariant-loop-pair
invariant-loop-pair l = view_pairs l.pairs.items ≡ view_pairs l.fn.pairs.items ++ view_pairs (take l.pair-index l.rest)
