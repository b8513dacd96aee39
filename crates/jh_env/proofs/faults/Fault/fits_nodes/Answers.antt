use Rattle.std.proofs.Common.{◌∙◌, ◌<◌, sym, length}
use Rattle.std.specs.List.{All}
use Rattle.jh_env.proofs.FaultLemmas.{decides, links_known, nodes_known, bumps_known, known_links, known_nodes, known_bumps, fits_links, fits_nodes}
use Rattle.jh_env.proofs.NamingLemmas.{unknown_bumps, unknown_links, unknown_nodes}
use Rattle.jh_env.proofs.faults.Fault.fits_nodes.Goals as goal

pub returns-in-OnLinks : goal.returns-in-OnLinks
returns-in-OnLinks c =
    let n = length c.args.nodes.now in
    let links = c.in-OnLinks.links.items in
    let test = (rw c.deref.ensures.value at c.is_any_end_unknown.ensures) ∙ unknown_links c.args.nodes.now links in
    rw (← c.self.view_is, c.in-OnLinks.is, fits_links n c.in-OnLinks.field-0 links)
    (decides c.is_any_end_unknown.result (All (λ l. (l.0 < n) × (l.1 < n)) links)
    (λ none. links_known n links (sym test ∙ none)) (λ known. test ∙ known_links n links known))

pub returns-in-OnNodes : goal.returns-in-OnNodes
returns-in-OnNodes c =
    let n = length c.args.nodes.now in
    let nodes = c.in-OnNodes.named.items in
    let test = (rw c.deref-in-OnNodes.ensures.value at c.is_any_node_unknown.ensures) ∙ unknown_nodes c.args.nodes.now nodes in
    rw (← c.self.view_is, c.in-OnNodes.is, fits_nodes n c.in-OnNodes.field-0 nodes)
    (decides c.is_any_node_unknown.result (All (λ k. k < n) nodes)
    (λ none. nodes_known n nodes (sym test ∙ none)) (λ known. test ∙ known_nodes n nodes known))

pub returns-in-Bump : goal.returns-in-Bump
returns-in-Bump c =
    let n = length c.args.nodes.now in
    let bumps = c.in-Bump.bumps.items in
    let test = (rw c.deref-in-Bump.ensures.value at c.is_any_bump_unknown.ensures) ∙ unknown_bumps c.args.nodes.now bumps in
    rw (← c.self.view_is, c.in-Bump.is)
    (decides c.is_any_bump_unknown.result (All (λ b. b.0 < n) bumps)
    (λ none. bumps_known n bumps (sym test ∙ none)) (λ known. test ∙ known_bumps n bumps known))
