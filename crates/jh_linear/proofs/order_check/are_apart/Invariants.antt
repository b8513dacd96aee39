use Rattle.std.proofs.Common.{◌≡◌, ℕ, ◌+◌, ◌<◌, get_or, drop, false}
use Rattle.jh_linear.specs.Order.{has}
use Rattle.jh_linear.proofs.order_check.are_apart.Given as goal

abbrev pub invariant-loop-index : goal.invariant-loop-index
invariant-loop-index l = (k : ℕ) → k < l.index → has (drop (k + 1) l.order) (get_or l.order k 0) ≡ false
