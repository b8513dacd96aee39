use Rattle.std.proofs.Common.{◌≡◌, All, take}
use Rattle.std.specs.Prelude.{filter_map}
use Rattle.jh_tables.specs.Standing.{IsLinkInRange}
use Rattle.jh_test_parts.specs.ChangesInside.{link_if_changed}
use Rattle.jh_test_parts.proofs.changes.links_changed.Given as goal

abbrev pub invariant-loop-link : goal.invariant-loop-link
invariant-loop-link l = record {
  changed : l.changed.items ≡ filter_map (link_if_changed l.after) (take l.link-index l.links);
  within : All (λ changed. IsLinkInRange changed.link) l.changed.items;
}
