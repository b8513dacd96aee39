use Rattle.jh_test_laws.proofs.JudgedLemmas.{are_judged}
use Rattle.jh_test_laws.proofs.laws.histories_are_judged.Goals as goal

pub returns : goal.returns
returns c = are_judged c.history_is_well_formed.ensures c.calls_are_offers.ensures.all
