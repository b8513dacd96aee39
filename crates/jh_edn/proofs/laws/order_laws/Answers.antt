use Rattle.jh_edn.proofs.NormalLemmas.{exact}
use Rattle.jh_edn.proofs.OrderLemmas.{edn_total}
use Rattle.jh_edn.proofs.TiedLemmas.{tied_equal}
use Rattle.jh_edn.specs.Spelling.{depth_limit}
use Rattle.jh_edn.proofs.laws.order_laws.Goals as goal

pub returns-clause-total : goal.returns-clause-total
returns-clause-total c = edn_total

pub returns-clause-tied : goal.returns-clause-tied
returns-clause-tied c = tied_equal

pub returns-clause-exact : goal.returns-clause-exact
returns-clause-exact c = λ x y h k e. exact depth_limit x y h k e
