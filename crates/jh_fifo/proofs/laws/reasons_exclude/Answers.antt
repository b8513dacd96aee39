use Rattle.jh_fifo.proofs.LawLemmas.{too_soon, nowhere, of_one, early, crossed, never_empty}
use Rattle.jh_fifo.proofs.laws.reasons_exclude.Goals as goal

pub returns-clause-backwards : goal.returns-clause-backwards
returns-clause-backwards c = λ ops order place orders h. too_soon ops order orders place h

pub returns-clause-nowhere : goal.returns-clause-nowhere
returns-clause-nowhere c = λ ops order place done orders h. nowhere ops order orders done place h

pub returns-clause-twice : goal.returns-clause-twice
returns-clause-twice c = λ ops order first second once done orders h. of_one ops order orders once done first second h

pub returns-clause-early : goal.returns-clause-early
returns-clause-early c = λ ops order dequeue enqueue once done orders h. early ops order orders once done dequeue enqueue h

pub returns-clause-crossed : goal.returns-clause-crossed
returns-clause-crossed c = λ ops order first second once done orders h. crossed ops order orders once done first second h

pub returns-clause-never_empty : goal.returns-clause-never_empty
returns-clause-never_empty c = λ ops order place once done orders h. never_empty ops order orders once done place h
