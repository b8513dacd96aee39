use Rattle.jh_numbers.proofs.NumberLemmas.{told, alike, stays}
use Rattle.jh_numbers.proofs.laws.number_laws.Goals as goal

pub returns-clause-told : goal.returns-clause-told
returns-clause-told c = told

pub returns-clause-alike : goal.returns-clause-alike
returns-clause-alike c = alike

pub returns-clause-stays : goal.returns-clause-stays
returns-clause-stays c = stays
