use Rattle.std.proofs.Common.{◌≡◌, take}
use Rattle.std.specs.Prelude.{filter_map}
use Rattle.jh_test_parts.specs.NamedCells.{placed_link}
use Rattle.jh_test_parts.proofs.named.all_links_named.Given as goal

abbrev pub invariant-loop-ends : goal.invariant-loop-ends
invariant-loop-ends l = l.links.items ≡ filter_map (placed_link l.env) (take l.ends-index l.ends-items)
