use Rattle.std.proofs.Common.{◌≡◌, ℕ, List, [], subst, sym}
use Rattle.std.specs.List.{filter_map}
use Rattle.jh_env.specs.Faults.{AreApart, kept_links, is_same_link}
use Rattle.jh_env.proofs.FaultLemmas.{kept_apart, none_apart, right_links}
use Rattle.jh_env.proofs.faults.Fault.on_links.Goals as goal

pub invariant_of-result : goal.invariant_of-result
invariant_of-result g c =
    let found = filter_map (g.L.NamesLink.linked c.args.nodes.now) c.args.links.now in
    let kept : c.in-Ok.links.items ≡ kept_links found = c.in-Ok.ensures.kept in
    let P : List (ℕ × ℕ) → Type 0 = AreApart is_same_link in
    right_links c.in_ok-kind.kind c.in-Ok.links.items c.in_ok-kind.ensures.0 (subst P (sym kept) (kept_apart is_same_link found [] (none_apart is_same_link)))
