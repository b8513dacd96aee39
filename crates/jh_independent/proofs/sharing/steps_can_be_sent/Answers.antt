use Rattle.jh_independent.proofs.SharingLemmas.{step_send}
use Rattle.jh_independent.proofs.sharing.steps_can_be_sent.Goals as goal

pub returns : goal.returns
returns c = step_send c.reasons_can_be_sent.ensures
