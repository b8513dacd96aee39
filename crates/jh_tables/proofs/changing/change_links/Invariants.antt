use Rattle.std.proofs.Common.{◌≡◌, ◌≤◌, ◌+◌, length, take}
use Rattle.jh_tables.specs.ChangingInside.{AreLinksChanged}
use Rattle.jh_tables.proofs.changing.change_links.Given as goal

abbrev pub invariant-loop-from : goal.invariant-loop-from
invariant-loop-from l = record {
  changed : AreLinksChanged l.change l.fault (take l.from-index l.links) (length l.fn.counted.nodes) l.fn.counted.links l.counted.links;
  nodes : l.counted.nodes ≡ l.fn.counted.nodes;
  fixes : l.counted.fixes ≡ l.fn.counted.fixes;
  work : l.counted.work ≤ l.fn.counted.work + l.from-index;
  many : length l.counted.links ≡ length l.fn.counted.links;
}
