use Rattle.std.proofs.Common.{◌≡◌, map, take}
use Rattle.jh_tables.specs.Tallies.{fresh_link}
use Rattle.jh_tables.proofs.counted.link_tallies.Given as goal

abbrev pub invariant-loop-link : goal.invariant-loop-link
invariant-loop-link l = l.tallies.items ≡ map fresh_link (take l.link-index l.links)
