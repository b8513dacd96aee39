use Rattle.jh_independent.proofs.SharingLemmas.{finding_send}
use Rattle.jh_independent.proofs.sharing.findings_can_be_sent.Goals as goal

pub returns : goal.returns
returns c =
    finding_send c.sets_can_be_sent.ensures.result c.counters_can_be_sent.ensures c.ids_can_be_sent.ensures c.verdicts_can_be_sent.ensures c.explanations_can_be_sent.ensures c.transactions_can_be_sent.ensures
    c.queues_can_be_sent.ensures.total c.queues_can_be_sent.ensures.queue c.banks_can_be_sent.ensures c.sets_over_time_can_be_sent.ensures c.orders_of_queues_can_be_sent.ensures
