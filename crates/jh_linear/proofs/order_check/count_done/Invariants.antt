use Rattle.std.proofs.Common.{◌≡◌, ◌≤◌, length, take, filter}
use Rattle.jh_linear.specs.CheckingInside.{is_op_done}
use Rattle.jh_linear.proofs.order_check.count_done.Given as goal

abbrev pub invariant-loop-number : goal.invariant-loop-number
invariant-loop-number l = record {
  few : l.count ≤ l.number-index;
  counted : l.count ≡ length (filter (is_op_done l.ops) (take l.number-index l.order));
}
