use Rattle.jh_test_laws.proofs.AskedLemmas.{calls_ask}
use Rattle.jh_test_laws.proofs.laws.calls_ask.Goals as goal

pub returns : goal.returns
returns c = calls_ask
