use Rattle.std.proofs.Common.{length, sym, subst, ◌∙◌, ap, arith}
use lib.Seq.{length-take-le}
use Rattle.std.specs.Prelude.{IsPermutation}
use Rattle.std.proofs.lemmas.Result.{IfOk-weaker}
use Rattle.jh_env.specs.Names.{node_places}
use Rattle.jh_step_texts.proofs.GrudgeLemmas.{order_long}
use Rattle.jh_random_faults.specs.Named.{AreNodesOf}
use Rattle.jh_random_faults.proofs.FaultLemmas.{taken_nodes}
use Rattle.jh_random_faults.proofs.random_faults.drawn_nodes.Goals as goal

pub slice_bounds-nodes_at-end : goal.slice_bounds-nodes_at-end
slice_bounds-nodes_at-end c =
    let long = ap length c.deref.ensures.value ∙ order_long (length c.args.nodes.now) c.in_ok-order.order.items c.in_ok-order.ensures.all in
    let few = c.nodes_named-count.ensures.within in
    let count = c.len.ensures.len in
    sym (length-take-le c.nodes_named-count.result c.deref.result.now (omega (arith, long, few, count)))

pub returns-clause-known : goal.returns-clause-known
returns-clause-known c =
    let n = length c.args.nodes.now in
    let few = c.nodes_named-count.ensures.within in
    let count = c.len.ensures.len in
    let shuffled : IsPermutation (node_places n) c.deref.result.now = subst (IsPermutation (node_places n)) (sym c.deref.ensures.value) c.in_ok-order.ensures.all in
    IfOk-weaker c.nodes_at.result _ _ (λ named is. subst (AreNodesOf n) (sym is) (taken_nodes n c.nodes_named-count.result c.deref.result.now shuffled (omega (arith, few, count)))) c.nodes_at.ensures
