use Rattle.jh_history_tests.proofs.ops.same_slots.counts_of.Given as goal

abbrev pub ghosts-run : goal.ghosts-run
ghosts-run a = record { table = a.slots.now.table }
