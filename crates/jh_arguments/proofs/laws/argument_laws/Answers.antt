use Rattle.jh_arguments.proofs.AskedLemmas.{asked_alike, asked_apart, asked_test_alike, asked_there}
use Rattle.jh_arguments.proofs.laws.argument_laws.Goals as goal

pub returns-clause-asked : goal.returns-clause-asked
returns-clause-asked c = asked_there

pub returns-clause-one : goal.returns-clause-one
returns-clause-one c = asked_alike

pub returns-clause-one_test : goal.returns-clause-one_test
returns-clause-one_test c = asked_test_alike

pub returns-clause-apart : goal.returns-clause-apart
returns-clause-apart c = asked_apart
