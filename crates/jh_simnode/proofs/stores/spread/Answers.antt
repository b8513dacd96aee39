use Rattle.std.proofs.Common.{◌≡◌, ◌∙◌, ap, length}
use Rattle.jh_env.specs.Names.{node_places}
use Rattle.jh_simnode.proofs.TakeOverLemmas.{own_replicas, own_sources}
use Rattle.jh_simnode.proofs.stores.spread.Goals as goal

pub loop-from-init : goal.loop-from-init
loop-from-init c =
    let count = length c.args.env.now.names in
    let own : c.all-sources.result.items ≡ node_places count = c.all-sources.ensures.all ∙ ap (λ names. node_places (length names)) c.nodes.ensures.names in
    rw own (record {
      so_far = own_replicas c.args.replicas.now count c.requires.sized;
      sources = own_sources count;
    })
