use Rattle.jh_conversation.proofs.KindLemmas.{kinds_apart}
use Rattle.jh_conversation.proofs.TimeLemmas.{times_in_order}
use Rattle.jh_conversation.proofs.TalkLemmas.{history_is_talk}
use Rattle.jh_conversation.proofs.laws.history_is_the_conversation.Goals as goal

pub returns-clause-talk : goal.returns-clause-talk
returns-clause-talk c = history_is_talk

pub returns-clause-order : goal.returns-clause-order
returns-clause-order c = times_in_order

pub returns-clause-kinds : goal.returns-clause-kinds
returns-clause-kinds c = kinds_apart
