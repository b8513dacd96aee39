use Rattle.jh_nemesis.proofs.IdLemmas.{reached_writes}
use Rattle.jh_nemesis.proofs.WorkLemmas.{all_written, begin_writes, redo_writes, refused_writes, undo_writes, undo_writes_redo}
use Rattle.jh_nemesis.proofs.laws.steps_write_their_faults.Goals as goal

pub returns-clause-refused : goal.returns-clause-refused
returns-clause-refused c = refused_writes

pub returns-clause-begin : goal.returns-clause-begin
returns-clause-begin c = begin_writes

pub returns-clause-withdraw : goal.returns-clause-withdraw
returns-clause-withdraw c = reached_writes

pub returns-clause-all : goal.returns-clause-all
returns-clause-all c = all_written

pub returns-clause-undo : goal.returns-clause-undo
returns-clause-undo c = undo_writes

pub returns-clause-redo : goal.returns-clause-redo
returns-clause-redo c = redo_writes

pub returns-clause-back : goal.returns-clause-back
returns-clause-back c = undo_writes_redo
