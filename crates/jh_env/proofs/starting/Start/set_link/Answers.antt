use Rattle.std.proofs.Common.{◌≡◌, ◌<◌, refl, length}
use Rattle.jh_env.proofs.StartLemmas.{link_at_set}
use Rattle.jh_env.proofs.starting.Start.set_link.Goals as goal

pub returns : goal.returns
returns c =
    let count : c.self.inside.node_cells.len ≡ length c.self.inside.node_cells.items = c.self.inside.node_cells.ok.0 in
    let from_below : c.args.from < length c.self.inside.node_cells.items = rw (c.place.ensures, c.len-count.ensures, count) at c.if-source-count.false in
    let to_below : c.args.to < length c.self.inside.node_cells.items = rw (c.place-2.ensures, c.len-count.ensures, count) at c.if-destination-count.false in
    let apart = rw (c.place.ensures, c.place-2.ensures) at c.if-source-destination.false in
    rw (← c.self.view_is, c.place.ensures, c.place-2.ensures, c.len-count.ensures, count) (record {
      names = refl;
      amounts = (c.if-link-gt-MAX_START_DELAY_MS.false, c.if-link-gt-MAX_START_LOSS.false);
      links = link_at_set c.self.inside.link_cells.items c.self.inside.node_cells.items c.args.from c.args.to c.args.link from_below to_below apart c.self.invariant.square;
      nodes = λ _. refl;
    })
