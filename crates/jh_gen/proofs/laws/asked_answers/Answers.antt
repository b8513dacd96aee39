use Rattle.jh_gen.proofs.AskedLemmas.{answered}
use Rattle.jh_gen.proofs.laws.asked_answers.Goals as goal

pub returns : goal.returns
returns c = answered
