use Rattle.std.proofs.Common.{◌≡◌, All, map, take}
use Rattle.jh_edn.specs.View.{views}
use Rattle.jh_tables.specs.Standing.{IsLinkInRange}
use Rattle.jh_test_parts.specs.Records.{changed_link_value}
use Rattle.jh_test_parts.proofs.operations.link_values.Given as goal

abbrev pub invariant-loop-changed : goal.invariant-loop-changed
invariant-loop-changed l = record {
  changed : views l.values.items ≡ map (changed_link_value l.nodes) (take l.changed-index l.changed-items);
  within : All (λ changed. IsLinkInRange changed.link) l.changed-items;
}
