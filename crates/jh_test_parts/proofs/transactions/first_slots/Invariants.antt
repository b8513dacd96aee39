use Rattle.std.proofs.Common.{◌≡◌}
use Rattle.jh_test_parts.specs.Transactions.{slots_from}
use Rattle.jh_test_parts.proofs.transactions.first_slots.Given as goal

abbrev pub invariant-loop-key : goal.invariant-loop-key
invariant-loop-key l = l.slots.items ≡ slots_from 0 l.key
