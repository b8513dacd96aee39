use Rattle.jh_fifo.proofs.LawLemmas.{stands_before}
use Rattle.jh_fifo.proofs.laws.goes_before.Goals as goal

pub returns : goal.returns
returns c = λ ops order one other first second once done orders was_one was_other goes is_one is_other. stands_before ops order orders once done one other first second was_one was_other goes is_one is_other
