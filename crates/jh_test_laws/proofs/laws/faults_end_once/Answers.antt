use Rattle.jh_test_laws.proofs.HealLemmas.{heals_accepted, heals_once}
use Rattle.jh_test_laws.proofs.laws.faults_end_once.Goals as goal

pub returns-clause-once : goal.returns-clause-once
returns-clause-once c = heals_once

pub returns-clause-accepted : goal.returns-clause-accepted
returns-clause-accepted c = heals_accepted
