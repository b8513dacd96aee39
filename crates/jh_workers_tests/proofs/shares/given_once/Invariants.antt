use Rattle.jh_workers_tests.proofs.shares.given_once.Given as goal

abbrev pub ghosts-run_beside : goal.ghosts-run_beside
ghosts-run_beside g a = record { name = a.blank.name; parts = a.blank.parts }
