use Rattle.jh_run_laws.proofs.OwnLemmas.{own_formed, own_judged}
use Rattle.jh_run_laws.proofs.laws.own_histories_are_judged.Goals as goal

pub returns-clause-formed : goal.returns-clause-formed
returns-clause-formed c = own_formed

pub returns-clause-judged : goal.returns-clause-judged
returns-clause-judged c = own_judged
