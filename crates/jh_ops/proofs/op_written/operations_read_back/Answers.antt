use Rattle.jh_ops.proofs.ReadBackLemmas.{read_back}
use Rattle.jh_ops.proofs.op_written.operations_read_back.Goals as goal

pub returns : goal.returns
returns c = read_back
