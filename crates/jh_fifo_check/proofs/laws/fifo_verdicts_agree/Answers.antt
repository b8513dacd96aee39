use Rattle.jh_fifo_check.proofs.AgreeLemmas.{fifo_agree}
use Rattle.jh_fifo_check.proofs.laws.fifo_verdicts_agree.Goals as goal

pub returns : goal.returns
returns c = fifo_agree
