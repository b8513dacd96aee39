use Rattle.jh_workers.proofs.locked_runs.run_locked.Given as goal

abbrev pub ghosts-run_over : goal.ghosts-run_over
ghosts-run_over g a = record { name = a.blank.name; parts = a.blank.parts }
