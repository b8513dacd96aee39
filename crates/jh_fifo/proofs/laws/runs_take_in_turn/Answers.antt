use Rattle.jh_fifo.proofs.LawLemmas.{first_in, first_out, all_out}
use Rattle.jh_fifo.proofs.laws.runs_take_in_turn.Goals as goal

pub returns-clause-first_in : goal.returns-clause-first_in
returns-clause-first_in c = λ ops order value dequeue orders is there. first_in ops order orders value dequeue is there

pub returns-clause-first_out : goal.returns-clause-first_out
returns-clause-first_out c = λ ops order one other first second once orders is_one is_other before dequeue is there. first_out ops order orders once one other first second dequeue is_one is_other before is there

pub returns-clause-emptied : goal.returns-clause-emptied
returns-clause-emptied c = λ ops order value enqueue place orders is empty before. all_out ops order orders value enqueue place is empty before
