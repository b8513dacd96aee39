use Rattle.jh_judge_tests.proofs.plain_check.orders.+goes_on.Given as goal

abbrev pub decreases-goes_on : goal.decreases-goes_on
decreases-goes_on l = l.more
