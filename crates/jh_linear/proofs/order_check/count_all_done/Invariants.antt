use Rattle.std.proofs.Common.{◌≡◌, ◌≤◌, length}
use Rattle.jh_linear.specs.CheckingInside.{done_numbers_below}
use Rattle.jh_linear.proofs.order_check.count_all_done.Given as goal

abbrev pub invariant-loop-number : goal.invariant-loop-number
invariant-loop-number l = record {
  few : l.count ≤ l.number;
  counted : l.count ≡ length (done_numbers_below l.ops l.number);
}
