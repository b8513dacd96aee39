use Rattle.std.proofs.Common.{◌≡◌, ℕ, ◌≤◌, true, Some, take}
use Rattle.jh_linear.specs.Order.{op_at, has, StandBefore, Precedes}
use Rattle.jh_unique.proofs.late.find_late.Given as goal

abbrev pub invariant-loop-number : goal.invariant-loop-number
invariant-loop-number l = record {
  so_far : (a b : ℕ) → StandBefore (take l.number-index l.order) a b → Precedes l.ops b a → ⊥;
  inside : (q : ℕ) → l.latest ≡ Some q → has (take l.number-index l.order) q ≡ true;
  high : (a : ℕ) → has (take l.number-index l.order) a ≡ true → (q : ℕ) × (l.latest ≡ Some q) × ((op_at l.ops a).invoked ≤ (op_at l.ops q).invoked);
}
