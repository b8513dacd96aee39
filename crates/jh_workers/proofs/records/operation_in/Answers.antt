use Rattle.jh_workers.proofs.RowLemmas.{refused_is_bad}
use Rattle.jh_workers.proofs.records.operation_in.Goals as goal

pub returns-in-Err : goal.returns-in-Err
returns-in-Err c = rw c.refusal_of.ensures (refused_is_bad c.args.words.now c.args.row c.in-Err.error c.in-Err.ensures)
