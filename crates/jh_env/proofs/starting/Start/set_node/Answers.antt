use Rattle.std.proofs.Common.{◌≡◌, ◌<◌, refl, rules, length}
use Rattle.jh_env.specs.Starting.{IsStartingNode}
use Rattle.jh_env.proofs.StartLemmas.{node_at_set, links_stay}
use Rattle.jh_env.proofs.starting.Start.set_node.Goals as goal

pub returns : goal.returns
returns c =
    let count : c.self.inside.node_cells.len ≡ length c.self.inside.node_cells.items = c.self.inside.node_cells.ok.0 in
    let below : c.args.node < length c.self.inside.node_cells.items = rw (c.place-place.ensures, c.len.ensures, count) at c.if-place-len.false in
    let amount : IsStartingNode c.args.cell = search rules in
    rw (← c.self.view_is, c.place-place.ensures) (record {
      names = refl;
      amount = amount;
      links = links_stay c.self.inside.link_cells.items c.self.inside.node_cells.items c.args.node c.args.cell;
      nodes = node_at_set c.self.inside.node_cells.items c.args.node c.args.cell below;
    })
