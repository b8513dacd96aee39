use Rattle.jh_fifo_check.proofs.NumberLemmas.{alike, told}
use Rattle.jh_fifo_check.proofs.laws.numbers_tell.Goals as goal

pub returns-clause-told : goal.returns-clause-told
returns-clause-told c = told

pub returns-clause-alike : goal.returns-clause-alike
returns-clause-alike c = alike
