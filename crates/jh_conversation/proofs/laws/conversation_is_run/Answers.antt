use Rattle.jh_conversation.proofs.TalkLemmas.{conversation_run}
use Rattle.jh_conversation.proofs.laws.conversation_is_run.Goals as goal

pub returns : goal.returns
returns c = conversation_run
