use denote.Param.Send.{sendable}
use Rattle.jh_independent.proofs.SharingLemmas.{keys_send, keys_sync}
use Rattle.jh_independent.proofs.threads.answers_of.Goals as goal

pub answer_tasks-requires-send-T : goal.answer_tasks-requires-send-T
answer_tasks-requires-send-T g c κs within =
    let value = c.values_can_be_shared.ensures in
    let op = c.operations_can_be_shared.ensures in
    let places = c.places_can_be_shared.ensures in
    search (keys_send, sendable)

pub answer_tasks-requires-sync-T : goal.answer_tasks-requires-sync-T
answer_tasks-requires-sync-T g c κs within =
    let value = c.values_can_be_shared.ensures in
    let op = c.operations_can_be_shared.ensures in
    let places = c.places_can_be_shared.ensures in
    search (keys_sync, sendable)
