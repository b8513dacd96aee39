use Rattle.std.proofs.Common.{ap, ◌∙◌}
use Rattle.std.specs.Ordering.{is_lt}
use Rattle.std.proofs.lemmas.List.MinMax.{ranks_by}
use Rattle.jh_edn.specs.Order.{in_order}
use Rattle.jh_edn.proofs.CitedLemmas.{sorted_is}
use Rattle.jh_env.proofs.fault_order.sorted.Goals as goal

pub returns : goal.returns
returns g c =
    let lt = λ (x y : g.row.T.Denot). is_lt (g.T.Ord.cmp x y) in
    sorted_is lt (ranks_by g.met.T.Ord.total (λ (x : g.row.T.Denot). x)) c.in_ok-sorted.sorted.items c.sort.new.self.items
    c.in_ok-sort.ensures.sorted c.in_ok-sort.ensures.stable
    ∙ ap (in_order lt) c.in_ok-sorted.ensures.items
