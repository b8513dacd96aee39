use Rattle.jh_test_laws.proofs.JudgedLemmas.{key_are_judged}
use Rattle.jh_test_laws.proofs.laws.key_histories_are_judged.Goals as goal

pub returns : goal.returns
returns c = key_are_judged c.history_is_well_formed.ensures c.calls_are_offers.ensures.all
