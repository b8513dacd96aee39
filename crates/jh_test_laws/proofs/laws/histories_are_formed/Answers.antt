use Rattle.jh_test_laws.proofs.JudgedLemmas.{are_formed}
use Rattle.jh_test_laws.proofs.laws.histories_are_formed.Goals as goal

pub returns : goal.returns
returns c = are_formed c.history_is_well_formed.ensures
