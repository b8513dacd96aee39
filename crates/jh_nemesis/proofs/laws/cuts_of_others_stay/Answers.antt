use Rattle.jh_nemesis.proofs.LawLemmas.{others_stay}
use Rattle.jh_nemesis.proofs.laws.cuts_of_others_stay.Goals as goal

pub returns : goal.returns
returns c = others_stay
