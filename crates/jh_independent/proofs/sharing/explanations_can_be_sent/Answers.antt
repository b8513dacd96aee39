use denote.Param.Send.{IsSend, sendable}
use denote.Param.SendFields.{declared_send}
use Rattle.std.proofs.Crossing.{Vec-send}
use Rattle.jh_checkers.specs.contracts.explanation.Explanation.{the_row, the_type}
use Rattle.jh_ops.specs.contracts.operation.Op as op
use Rattle.jh_unique.specs.contracts.verdict.UniqueReason as reason
use Rattle.jh_independent.proofs.sharing.explanations_can_be_sent.Goals as goal

pub can_be_sent-requires-send-T : goal.can_be_sent-requires-send-T
can_be_sent-requires-send-T c κs =
    let op : IsSend op.the_row = c.operations_can_be_sent.ensures in
    let reason : IsSend reason.the_row = c.reasons_of_registers_can_be_sent.ensures in
    let explanation : IsSend the_row = declared_send the_type (op, (Vec-send _ (search sendable), (search sendable depth 16, tt))) in
    search sendable
