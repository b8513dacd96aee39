use Rattle.std.proofs.Common.{◌+◌, ◌*◌}
use Rattle.jh_history_tests.proofs.plain_generators.offers.+offer.Given as goal

abbrev pub decreases-offer_of : goal.decreases-offer_of
decreases-offer_of l = 2 * l.depth

abbrev pub decreases-first_offer : goal.decreases-first_offer
decreases-first_offer l = 2 * l.depth + 1

abbrev pub decreases-mixed_offer : goal.decreases-mixed_offer
decreases-mixed_offer l = 2 * l.depth + 1

abbrev pub decreases-shared_offer : goal.decreases-shared_offer
decreases-shared_offer l = 2 * l.depth + 1
