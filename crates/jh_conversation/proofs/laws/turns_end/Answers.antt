use Rattle.jh_conversation.proofs.SettledLemmas.{always_waits, turn_law}
use Rattle.jh_conversation.proofs.laws.turns_end.Goals as goal

pub returns-clause-settles : goal.returns-clause-settles
returns-clause-settles c = turn_law

pub returns-clause-waits : goal.returns-clause-waits
returns-clause-waits c = always_waits
