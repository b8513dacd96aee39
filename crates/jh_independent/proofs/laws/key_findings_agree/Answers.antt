use Rattle.jh_independent.specs.Keys.{history_of}
use Rattle.jh_independent.proofs.LawLemmas.{one_line}
use Rattle.jh_independent.proofs.laws.key_findings_agree.Goals as goal

pub returns-clause-line : goal.returns-clause-line
returns-clause-line c = λ asked a b one. one_line asked a b (λ key x y found other. (
  c.findings_agree.ensures.line asked.judging (history_of key asked.history) x y one found other,
  c.findings_agree.ensures.line_verdict asked.judging (history_of key asked.history) x y one found other,
))

pub returns-clause-verdict : goal.returns-clause-verdict
returns-clause-verdict c = λ asked key a b. c.findings_agree.ensures.verdict asked.judging (history_of key asked.history) a b

pub returns-clause-stuck : goal.returns-clause-stuck
returns-clause-stuck c = λ asked key a b. c.findings_agree.ensures.stuck asked.judging (history_of key asked.history) a b
