use Rattle.std.proofs.Common.{ℤ, Option, drop}
use Rattle.jh_linear.specs.Order.{IsLegalFrom}
use Rattle.jh_unique.proofs.cuts.value_after.Given as goal

abbrev pub invariant-loop-number : goal.invariant-loop-number
invariant-loop-number l = (last : Option ℤ) → IsLegalFrom l.ops l.fn.initial l.order last → IsLegalFrom l.ops l.value (drop l.number-index l.order) last
