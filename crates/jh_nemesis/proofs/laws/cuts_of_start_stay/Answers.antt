use Rattle.jh_nemesis.proofs.LawLemmas.{start_stays}
use Rattle.jh_nemesis.proofs.laws.cuts_of_start_stay.Goals as goal

pub returns : goal.returns
returns c = start_stays
