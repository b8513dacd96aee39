use Rattle.std.proofs.Common.{◌≡◌, replicate}
use Rattle.jh_slots.proofs.slots.zeros.Given as goal

abbrev pub invariant-loop : goal.invariant-loop
invariant-loop l = l.words.items ≡ replicate l.counter 0
