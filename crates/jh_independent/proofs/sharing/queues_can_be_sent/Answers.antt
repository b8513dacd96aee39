use Rattle.jh_independent.proofs.SharingLemmas.{queue_send}
use Rattle.jh_independent.proofs.sharing.queues_can_be_sent.Goals as goal

pub returns-clause-queue : goal.returns-clause-queue
returns-clause-queue c = queue_send c.operations_can_be_sent.ensures
