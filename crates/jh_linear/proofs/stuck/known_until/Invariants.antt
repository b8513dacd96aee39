use Rattle.std.proofs.Common.{◌≡◌, ℕ, ◌+◌, ◌<◌, ◌≤◌, true, false}
use Rattle.jh_linear.specs.StuckInside.{is_known_at}
use Rattle.jh_linear.proofs.stuck.known_until.Given as goal

abbrev pub invariant-loop-index : goal.invariant-loop-index
invariant-loop-index l = record {
  bounded : l.count ≤ l.index;
  last : (i : ℕ) → i + 1 ≡ l.count → is_known_at l.ops l.order l.cut i ≡ true;
  behind : (i : ℕ) → l.count ≤ i → i < l.index → is_known_at l.ops l.order l.cut i ≡ false;
}
