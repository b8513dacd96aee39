use Rattle.jh_run_laws.proofs.OfferLemmas.{offers_suit}
use Rattle.jh_run_laws.proofs.laws.calls_are_of_their_workload.Goals as goal

pub returns : goal.returns
returns c = offers_suit
