use Rattle.std.proofs.Common.{◌≡◌, ◌<◌, ◌≤◌, ℕ, true, take}
use Rattle.jh_txn.specs.OrderCheckInside.{IsNoneTooLate}
use Rattle.jh_txn.specs.RealTime.{invoked_at}
use Rattle.jh_txn.specs.Transactions.{includes}
use Rattle.jh_txn.proofs.order_check.none_late.Given as goal

abbrev pub invariant-loop-place : goal.invariant-loop-place
invariant-loop-place l = record {
  none : IsNoneTooLate l.txns (take l.place-index l.order);
  high : (place : ℕ) → includes (take l.place-index l.order) place ≡ true → invoked_at l.txns place ≤ l.latest;
  reached : 0 < l.latest → (place : ℕ) × (includes (take l.place-index l.order) place ≡ true) × (invoked_at l.txns place ≡ l.latest);
}
