use Rattle.jh_edn.proofs.LineSpelledLemmas.{spelled_in}
use Rattle.jh_edn.proofs.laws.values_are_spelled.Goals as goal

pub returns : goal.returns
returns c = spelled_in
