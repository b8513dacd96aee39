use Rattle.jh_plots.proofs.WholeLemmas.{counts_whole}
use Rattle.jh_plots.proofs.laws.count_laws.Goals as goal

pub returns : goal.returns
returns c = λ width end kind calls some within. counts_whole width end kind calls some within
