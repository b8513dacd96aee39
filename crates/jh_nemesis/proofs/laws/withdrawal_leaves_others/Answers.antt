use Rattle.jh_nemesis.proofs.IdLemmas.{reached_leaves, reached_make}
use Rattle.jh_nemesis.proofs.laws.withdrawal_leaves_others.Goals as goal

pub returns-clause-faults : goal.returns-clause-faults
returns-clause-faults c = reached_leaves

pub returns-clause-environment : goal.returns-clause-environment
returns-clause-environment c = reached_make
