use Rattle.jh_conversation.proofs.FormedLemmas.{all_formed}
use Rattle.jh_conversation.proofs.laws.history_is_well_formed.Goals as goal

pub returns : goal.returns
returns c = all_formed
