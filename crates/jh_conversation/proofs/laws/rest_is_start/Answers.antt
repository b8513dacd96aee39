use Rattle.jh_conversation.proofs.CellLemmas.{rest_is_start}
use Rattle.jh_conversation.proofs.QuietLemmas.{rest_is_quiet}
use Rattle.jh_conversation.proofs.laws.rest_is_start.Goals as goal

pub returns-clause-quiet : goal.returns-clause-quiet
returns-clause-quiet c = rest_is_quiet

pub returns-clause-start : goal.returns-clause-start
returns-clause-start c = rest_is_start
