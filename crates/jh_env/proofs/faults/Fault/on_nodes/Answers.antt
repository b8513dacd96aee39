use Rattle.std.proofs.Common.{◌≡◌, ℕ, List, [], subst, sym}
use Rattle.std.specs.List.{filter_map}
use Rattle.jh_env.specs.Faults.{AreApart, kept_nodes, is_same_node}
use Rattle.jh_env.proofs.FaultLemmas.{kept_apart, none_apart, right_nodes}
use Rattle.jh_env.proofs.faults.Fault.on_nodes.Goals as goal

pub invariant_of-result : goal.invariant_of-result
invariant_of-result g c =
    let found = filter_map (g.N.NamesNode.named c.args.nodes.now) c.args.named.now in
    let kept : c.in-Ok.named.items ≡ kept_nodes found = c.in-Ok.ensures.kept in
    let P : List ℕ → Type 0 = AreApart is_same_node in
    right_nodes c.args.kind c.in-Ok.named.items (subst P (sym kept) (kept_apart is_same_node found [] (none_apart is_same_node)))
