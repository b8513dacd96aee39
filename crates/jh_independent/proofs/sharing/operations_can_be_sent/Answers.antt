use denote.Param.Send.{IsSend, sendable}
use Rattle.jh_ops.specs.contracts.operation.Op.{the_row}
use Rattle.jh_independent.proofs.SharingLemmas.{op_send}
use Rattle.jh_independent.proofs.sharing.operations_can_be_sent.Goals as goal

pub can_be_sent-requires-send-T : goal.can_be_sent-requires-send-T
can_be_sent-requires-send-T c κs =
    let op : IsSend the_row = op_send c.values_can_be_sent.ensures c.pairs_can_be_sent.ensures in
    search sendable
