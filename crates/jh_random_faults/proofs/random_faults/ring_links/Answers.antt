use Rattle.std.proofs.Common.{length, subst, sym, ◌∙◌}
use Rattle.std.proofs.lemmas.Result.{IfOk-weaker}
use Rattle.jh_grudge.specs.Grudges.{RingDrops}
use Rattle.jh_step_texts.specs.NamedFaults.{AreLinksAmong, leaves_majority}
use Rattle.jh_step_texts.proofs.GrudgeLemmas.{order_distinct, order_below, order_long, ring_exact}
use Rattle.jh_step_texts.proofs.LinkLemmas.{links_are}
use Rattle.jh_random_faults.proofs.FaultLemmas.{joined_among}
use Rattle.jh_random_faults.proofs.random_faults.ring_links.Goals as goal

pub majorities_ring-requires : goal.majorities_ring-requires
majorities_ring-requires c = order_distinct (length c.args.order.now) c.args.order.now c.requires

pub returns-clause-links : goal.returns-clause-links
returns-clause-links c =
    let order = c.args.order.now in let n = length order in
    let ring = links_are (RingDrops order) (leaves_majority order) n c.in_ok-grudge.grudge c.in_ok-grudge.ensures.links c.in_ok-grudge.ensures.ascending
    (ring_exact order n (order_long n order c.requires) (order_below n order c.requires)) in
    IfOk-weaker c.links_at.result _ _ (λ links is. is ∙ c.links.ensures.links ∙ ring) c.links_at.ensures

pub returns-clause-among : goal.returns-clause-among
returns-clause-among c =
    let order = c.args.order.now in let n = length order in
    let among = joined_among order n (order_below n order c.requires) c.in_ok-grudge.grudge c.in_ok-grudge.ensures.among in
    IfOk-weaker c.links_at.result _ _ (λ links is. subst (AreLinksAmong n) (sym (is ∙ c.links.ensures.links)) among) c.links_at.ensures
