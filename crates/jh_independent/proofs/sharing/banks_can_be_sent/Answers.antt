use Rattle.jh_independent.proofs.SharingLemmas.{bank_send}
use Rattle.jh_independent.proofs.sharing.banks_can_be_sent.Goals as goal

pub returns : goal.returns
returns c = bank_send c.operations_can_be_sent.ensures
