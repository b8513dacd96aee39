use Rattle.jh_lines.proofs.LawLemmas.{told_first}
use Rattle.jh_lines.proofs.laws.tells_first.Goals as goal

pub returns : goal.returns
returns c = told_first
