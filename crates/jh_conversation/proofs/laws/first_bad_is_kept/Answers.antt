use Rattle.jh_conversation.proofs.FirstBadLemmas.{first_bad_kept}
use Rattle.jh_conversation.proofs.laws.first_bad_is_kept.Goals as goal

pub returns : goal.returns
returns c = first_bad_kept
