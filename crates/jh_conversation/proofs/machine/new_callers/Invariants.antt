use Rattle.std.proofs.Common.{◌≡◌}
use Rattle.jh_conversation.specs.Machine.{new_callers}
use Rattle.jh_conversation.proofs.machine.new_callers.Given as goal

abbrev pub invariant-loop-thread : goal.invariant-loop-thread
invariant-loop-thread l = l.callers.items ≡ new_callers l._thread l.used_numbers
