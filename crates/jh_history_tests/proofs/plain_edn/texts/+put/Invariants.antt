use Rattle.jh_history_tests.proofs.plain_edn.texts.+put.Given as goal

abbrev pub decreases-put : goal.decreases-put
decreases-put l = l.depth
