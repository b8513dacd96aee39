use Rattle.jh_nemesis.proofs.StepLemmas.{redo_back, redo_undone, redos_back}
use Rattle.jh_nemesis.proofs.laws.redo_restores.Goals as goal

pub returns-clause-redo : goal.returns-clause-redo
returns-clause-redo c = redo_back

pub returns-clause-undo : goal.returns-clause-undo
returns-clause-undo c = redo_undone

pub returns-clause-many : goal.returns-clause-many
returns-clause-many c = redos_back
