use Rattle.std.proofs.Common.{◌≡◌, ◌<◌, ◌++◌, length, reverse}
use Rattle.jh_linear.specs.Reached.{order_at}
use Rattle.jh_linear.proofs.stuck.order_of.Given as goal

abbrev pub invariant-steps : goal.invariant-steps
invariant-steps l = record {
  low : l.at < length l.steps;
  joins : order_at l.steps l.fn.last ≡ order_at l.steps l.at ++ reverse l.order.items;
}

abbrev pub decreases-steps : goal.decreases-steps
decreases-steps l = l.at
