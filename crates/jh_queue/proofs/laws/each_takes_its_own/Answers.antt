use Rattle.jh_queue.proofs.TakesLemmas.{takes, finds, earlier_take, first_cannot}
use Rattle.jh_queue.proofs.laws.each_takes_its_own.Goals as goal

pub returns-clause-takes : goal.returns-clause-takes
returns-clause-takes c = takes

pub returns-clause-finds : goal.returns-clause-finds
returns-clause-finds c = finds

pub returns-clause-earlier : goal.returns-clause-earlier
returns-clause-earlier c = earlier_take

pub returns-clause-first : goal.returns-clause-first
returns-clause-first c = first_cannot
