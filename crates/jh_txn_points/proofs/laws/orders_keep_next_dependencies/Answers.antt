use Rattle.std.proofs.Common.{refl}
use Rattle.jh_txn.specs.Models.{keeps_real_time}
use Rattle.jh_txn_points.proofs.WholeLemmas.{keeps_next, paired}
use Rattle.jh_txn_points.proofs.laws.orders_keep_next_dependencies.Goals as goal

pub returns-clause-kept : goal.returns-clause-kept
returns-clause-kept c = λ txns model longest graph order why first second g kept h.
    keeps_next txns g.elements g.writers g.reads g.there longest (keeps_real_time model) graph g.numbered g.written g.done g.marked g.begun g.good g.ends g.of_points order kept model refl why first second h

pub returns-clause-paired : goal.returns-clause-paired
returns-clause-paired c = λ txns real_time longest graph order place g kept low.
    paired txns g.elements g.writers g.reads g.there longest real_time graph g.numbered g.written g.done g.marked g.begun g.good g.ends g.of_points order kept place low
