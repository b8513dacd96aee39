use Rattle.std.proofs.Common.{◌∙◌}
use Rattle.jh_ops.specs.Operation.{operation}
use Rattle.jh_total_queue.specs.TotalQueue.{is_bad_drain}
use Rattle.jh_total_queue.proofs.DrainLemmas.{position_mapped}
use Rattle.jh_total_queue.proofs.dequeued.first_bad_drain.Goals as goal

pub returns : goal.returns
returns c = c.place_of_bad_drain.ensures ∙ position_mapped is_bad_drain operation c.args.history.now
