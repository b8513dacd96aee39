use Rattle.jh_checkers.proofs.LawLemmas.{one_finding, one_line, one_verdict, stuck_agree, verdicts_agree}
use Rattle.jh_checkers.proofs.laws.findings_agree.Goals as goal

pub returns-clause-one : goal.returns-clause-one
returns-clause-one c = λ judging history a b. one_finding judging.checker judging history a b

pub returns-clause-line : goal.returns-clause-line
returns-clause-line c = λ judging history a b. one_line judging.checker judging history a b

pub returns-clause-line_verdict : goal.returns-clause-line_verdict
returns-clause-line_verdict c = λ judging history a b. one_verdict judging.checker judging history a b

pub returns-clause-verdict : goal.returns-clause-verdict
returns-clause-verdict c = λ judging history a b. verdicts_agree judging.checker judging history a b

pub returns-clause-stuck : goal.returns-clause-stuck
returns-clause-stuck c = λ judging history a b. stuck_agree judging.checker judging history a b
