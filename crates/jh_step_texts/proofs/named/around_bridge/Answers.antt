use Rattle.std.proofs.Common.{◌≡◌, length, ◌∙◌}
use Rattle.jh_grudge.specs.Grudges.{BridgeDrops}
use Rattle.jh_env.specs.Names.{node_places}
use Rattle.jh_step_texts.specs.NamedFaults.{crosses_bridge}
use Rattle.jh_step_texts.proofs.GrudgeLemmas.{places_apart, places_below, bridge_exact, made_of, made_among}
use Rattle.jh_step_texts.proofs.named.around_bridge.Goals as goal

pub bridge-requires : goal.bridge-requires
bridge-requires c =
    let all : c.deref.result.now ≡ node_places (length c.args.nodes.now) = c.deref.ensures.value ∙ c.in_ok-all.ensures in
    rw all (places_apart (length c.args.nodes.now))

pub returns-clause-links : goal.returns-clause-links
returns-clause-links c =
    let n = length c.args.nodes.now in
    let all : c.deref.result.now ≡ node_places n = c.deref.ensures.value ∙ c.in_ok-all.ensures in
    made_of c.bridge.result _ (BridgeDrops (node_places n)) (crosses_bridge n) n (bridge_exact n) (rw all at c.bridge.ensures.links) c.bridge.ensures.ascending

pub returns-clause-among : goal.returns-clause-among
returns-clause-among c =
    let n = length c.args.nodes.now in
    let all : c.deref.result.now ≡ node_places n = c.deref.ensures.value ∙ c.in_ok-all.ensures in
    made_among c.bridge.result (node_places n) n (places_below n) (rw all at c.bridge.ensures.among)
