use Rattle.jh_edn.proofs.NormalLemmas.{keeps, made_normal, can_print, one_normal}
use Rattle.jh_edn.specs.Spelling.{depth_limit}
use Rattle.jh_edn.proofs.laws.normal_laws.Goals as goal

pub returns-clause-keeps : goal.returns-clause-keeps
returns-clause-keeps c = keeps

pub returns-clause-normal : goal.returns-clause-normal
returns-clause-normal c = λ x h. made_normal depth_limit x h

pub returns-clause-printable : goal.returns-clause-printable
returns-clause-printable c = λ x h. can_print depth_limit x h

pub returns-clause-one : goal.returns-clause-one
returns-clause-one c = λ x y p q e. one_normal depth_limit x y p q e
