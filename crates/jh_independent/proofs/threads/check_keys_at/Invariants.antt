use Rattle.jh_ops.specs.Operation.{operations}
use Rattle.jh_independent.specs.Refusals.{keys_question}
use Rattle.jh_independent.proofs.threads.check_keys_at.Given as goal

abbrev pub ghosts-judged : goal.ghosts-judged
ghosts-judged g a = record { asked = keys_question a.judging (operations a.history.now) }
