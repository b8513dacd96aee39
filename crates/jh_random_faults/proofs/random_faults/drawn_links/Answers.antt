use Rattle.std.proofs.Common.{◌%◌, ℕ, List, length, subst, sym, ap, ◌∙◌, arith}
use Rattle.std.specs.Prelude.{IsPermutation}
use Rattle.std.proofs.lemmas.Result.{IfOk-weaker}
use Rattle.jh_env.specs.Names.{node_places}
use Rattle.jh_step_texts.specs.NamedFaults.{AreLinksAmong}
use Rattle.jh_step_texts.proofs.GrudgeLemmas.{order_long}
use Rattle.jh_random_faults.specs.RandomFaults.{links_named}
use Rattle.jh_random_faults.proofs.random_faults.drawn_links.Goals as goal

pub links_named-requires-clause-some : goal.links_named-requires-clause-some
links_named-requires-clause-some c =
    let long = ap length c.deref.ensures.value ∙ order_long (length c.args.nodes.now) c.in_ok-order.order.items c.in_ok-order.ensures.all in
    let some = c.requires in
    omega (arith, long, some)

pub links_named-requires-clause-all : goal.links_named-requires-clause-all
links_named-requires-clause-all c =
    let n = length c.args.nodes.now in
    let long = ap length c.deref.ensures.value ∙ order_long n c.in_ok-order.order.items c.in_ok-order.ensures.all in
    subst (λ m. IsPermutation (node_places m) c.deref.result.now) (sym long)
    (subst (IsPermutation (node_places n)) (sym c.deref.ensures.value) c.in_ok-order.ensures.all)

pub returns-clause-links : goal.returns-clause-links
returns-clause-links c =
    let n = length c.args.nodes.now in
    let order = c.deref.ensures.value ∙ c.in_ok-order.ensures.order in
    let long = ap length c.deref.ensures.value ∙ order_long n c.in_ok-order.order.items c.in_ok-order.ensures.all in
    IfOk-weaker c.links_named.result _ _ (λ links is. is
    ∙ ap (λ m. links_named m c.deref.result.now (c.args.draw.shape % 4)) long
    ∙ ap (λ (o : List ℕ). links_named n o (c.args.draw.shape % 4)) order) c.links_named.ensures.links

pub returns-clause-among : goal.returns-clause-among
returns-clause-among c =
    let n = length c.args.nodes.now in
    let long = ap length c.deref.ensures.value ∙ order_long n c.in_ok-order.order.items c.in_ok-order.ensures.all in
    IfOk-weaker c.links_named.result _ _ (λ links among. subst (λ m. AreLinksAmong m links.items) long among) c.links_named.ensures.among
