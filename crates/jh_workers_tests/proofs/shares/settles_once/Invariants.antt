use Rattle.jh_workers_tests.proofs.shares.settles_once.Given as goal

abbrev pub ghosts-settles : goal.ghosts-settles
ghosts-settles g a = record { name = a.blank.name; parts = a.blank.parts }
