use Rattle.std.proofs.Common.{◌+◌, ◌*◌}
use Rattle.jh_history_tests.proofs.plain_generators.offers.+spent.Given as goal

abbrev pub decreases-is_spent : goal.decreases-is_spent
decreases-is_spent l = 2 * l.depth

abbrev pub decreases-are_spent : goal.decreases-are_spent
decreases-are_spent l = 2 * l.depth + 1

abbrev pub decreases-are_shares_spent : goal.decreases-are_shares_spent
decreases-are_shares_spent l = 2 * l.depth + 1

abbrev pub decreases-is_each_spent : goal.decreases-is_each_spent
decreases-is_each_spent l = 2 * l.depth + 1
