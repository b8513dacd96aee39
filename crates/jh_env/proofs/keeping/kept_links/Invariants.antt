use Rattle.std.proofs.Common.{◌≡◌, [], drop, length}
use Rattle.std.specs.List.{filter_map}
use Rattle.jh_env.specs.Faults.{AreKnownLinks, kept_list, is_same_link}
use Rattle.jh_env.proofs.keeping.kept_links.Given as goal

abbrev pub invariant-loop-link : goal.invariant-loop-link
invariant-loop-link g l =
    (l.seen.keys ≡ l.kept.items)
    × (kept_list is_same_link l.kept.items (filter_map (g.L.NamesLink.linked l.nodes) (drop l.link-index l.links))
    ≡ kept_list is_same_link [] (filter_map (g.L.NamesLink.linked l.nodes) l.links))
    × AreKnownLinks (length l.nodes) l.kept.items
