use Rattle.jh_independent.proofs.SharingLemmas.{why_send}
use Rattle.jh_independent.proofs.sharing.reasons_can_be_sent.Goals as goal

pub returns : goal.returns
returns c = why_send c.values_can_be_sent.ensures
