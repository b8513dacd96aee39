use Rattle.std.proofs.Common.{◌≡◌, ℕ, ◌*◌, ◌^◌, ◌≤◌, take, length}
use Rattle.std.specs.List.{sum}
use Rattle.jh_ops.specs.Operation.{operations}
use Rattle.jh_check.specs.CounterInside.{bound_before}
use Rattle.jh_check.proofs.totals.amounts_of.Given as goal

abbrev pub invariant-loop-pair : goal.invariant-loop-pair
invariant-loop-pair l = record {
  long : length l.amounts.items ≡ length l.history;
  sums : (place : ℕ) → place ≤ length l.history → sum (take place l.amounts.items) ≡ bound_before l.side (operations l.history) (take l.pair-index l.pairs) place;
  few : sum l.amounts.items ≤ l.pair-index * 2 ^ 63;
}
