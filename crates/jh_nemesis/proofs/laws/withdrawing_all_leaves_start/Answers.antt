use Rattle.jh_nemesis.proofs.LawLemmas.{all_withdrawn}
use Rattle.jh_nemesis.proofs.laws.withdrawing_all_leaves_start.Goals as goal

pub returns : goal.returns
returns c = all_withdrawn
