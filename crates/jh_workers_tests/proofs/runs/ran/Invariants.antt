use Rattle.jh_workers_tests.proofs.runs.ran.Given as goal

abbrev pub ghosts-run_both : goal.ghosts-run_both
ghosts-run_both g a = record { name = a.blank.name; parts = a.blank.parts }
