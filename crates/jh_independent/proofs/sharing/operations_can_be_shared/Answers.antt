use denote.Param.Send.{IsSync, sendable}
use Rattle.jh_ops.specs.contracts.operation.Op.{the_row}
use Rattle.jh_independent.proofs.SharingLemmas.{op_sync}
use Rattle.jh_independent.proofs.sharing.operations_can_be_shared.Goals as goal

pub can_be_shared-requires-sync-T : goal.can_be_shared-requires-sync-T
can_be_shared-requires-sync-T c κs =
    let op : IsSync the_row = op_sync c.values_can_be_shared.ensures c.pairs_can_be_shared.ensures in
    search sendable
