use Rattle.jh_ops.proofs.RecordReadLemmas.{one_list, one_operation}
use Rattle.jh_ops.proofs.words.recorded_once.Goals as goal

pub returns : goal.returns
returns c = record { one_list = one_list; one_operation = one_operation }
