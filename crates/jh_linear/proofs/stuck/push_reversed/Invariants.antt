use Rattle.std.proofs.Common.{◌≡◌, ◌++◌, reverse, take}
use Rattle.jh_linear.proofs.stuck.push_reversed.Given as goal

abbrev pub invariant-loop-done : goal.invariant-loop-done
invariant-loop-done l = l.order.items ≡ l.fn.order.items ++ take l.done (reverse l.placed)
