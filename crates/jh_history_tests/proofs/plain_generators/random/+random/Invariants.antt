use Rattle.std.proofs.Common.{◌+◌, ◌*◌}
use Rattle.jh_history_tests.proofs.plain_generators.random.+random.Given as goal

abbrev pub decreases-random_source : goal.decreases-random_source
decreases-random_source l = 2 * l.depth

abbrev pub decreases-random_inner : goal.decreases-random_inner
decreases-random_inner l = 2 * l.depth + 1

abbrev pub decreases-random_members : goal.decreases-random_members
decreases-random_members l = 2 * l.depth + 1

abbrev pub decreases-random_shares : goal.decreases-random_shares
decreases-random_shares l = 2 * l.depth + 1
