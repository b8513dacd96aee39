use Rattle.std.proofs.Common.{length}
use Rattle.jh_grudge.specs.Grudges.{RingDrops}
use Rattle.jh_step_texts.specs.NamedFaults.{leaves_majority}
use Rattle.jh_step_texts.proofs.GrudgeLemmas.{order_distinct, order_below, order_long, ring_exact, made_of, made_among}
use Rattle.jh_step_texts.proofs.named.ring.Goals as goal

pub majorities_ring-requires : goal.majorities_ring-requires
majorities_ring-requires c = order_distinct (length c.args.nodes.now) c.args.order.now c.requires

pub returns-clause-links : goal.returns-clause-links
returns-clause-links c =
    let n = length c.args.nodes.now in let order = c.args.order.now in
    made_of c.majorities_ring.result _ (RingDrops order) (leaves_majority order) n (ring_exact order n (order_long n order c.requires) (order_below n order c.requires))
    c.majorities_ring.ensures.links c.majorities_ring.ensures.ascending

pub returns-clause-among : goal.returns-clause-among
returns-clause-among c =
    let n = length c.args.nodes.now in let order = c.args.order.now in
    made_among c.majorities_ring.result order n (order_below n order c.requires) c.majorities_ring.ensures.among
