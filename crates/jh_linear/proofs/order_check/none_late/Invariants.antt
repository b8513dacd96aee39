use Rattle.std.proofs.Common.{◌≡◌, ℕ, ◌<◌, ◌≤◌, get_or}
use Rattle.jh_linear.specs.Order.{op_at, Precedes}
use Rattle.jh_linear.proofs.order_check.none_late.Given as goal

abbrev pub invariant-loop-number : goal.invariant-loop-number
invariant-loop-number l = record {
  so_far : (i j : ℕ) → i < j → j < l.number-index → Precedes l.ops (get_or l.order j 0) (get_or l.order i 0) → ⊥;
  high : (i : ℕ) → i < l.number-index → (op_at l.ops (get_or l.order i 0)).invoked ≤ l.latest;
  some : 0 < l.latest → (i : ℕ) × (i < l.number-index) × ((op_at l.ops (get_or l.order i 0)).invoked ≡ l.latest);
}
