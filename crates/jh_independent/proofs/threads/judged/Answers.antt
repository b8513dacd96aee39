use Rattle.jh_independent.proofs.threads.judged.Goals as goal

pub returns-clause-found : goal.returns-clause-found
returns-clause-found g c = rw c.requires.asks c.collected.ensures.found
