use Rattle.jh_nemesis.proofs.LawLemmas.{withdrawal_ends}
use Rattle.jh_nemesis.proofs.laws.withdrawal_ends_begin.Goals as goal

pub returns : goal.returns
returns c = withdrawal_ends
