use Rattle.std.proofs.Common.{◌≡◌, map, take}
use Rattle.jh_linear.specs.Stuck.{op_in}
use Rattle.jh_unique.proofs.cuts.ops_before.Given as goal

abbrev pub invariant-loop-op : goal.invariant-loop-op
invariant-loop-op l = l.shown.items ≡ map (op_in l.cut) (take l.op-index l.ops)
