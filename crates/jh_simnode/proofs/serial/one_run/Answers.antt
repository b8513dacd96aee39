use Rattle.jh_simnode.proofs.OneRunLemmas.{only_run}
use Rattle.jh_simnode.proofs.serial.one_run.Goals as goal

pub returns : goal.returns
returns c = only_run
