use Rattle.std.proofs.Common.{◌≡◌, ◌≤◌, ◌+◌, length, take}
use Rattle.jh_tables.specs.ChangingInside.{AreNodesChanged}
use Rattle.jh_tables.proofs.changing.change_nodes.Given as goal

abbrev pub invariant-loop-node : goal.invariant-loop-node
invariant-loop-node l = record {
  changed : AreNodesChanged l.change l.fault (take l.node-index l.nodes) l.fn.counted.nodes l.counted.nodes;
  many : length l.counted.nodes ≡ length l.fn.counted.nodes;
  links : l.counted.links ≡ l.fn.counted.links;
  fixes : l.counted.fixes ≡ l.fn.counted.fixes;
  work : l.counted.work ≤ l.fn.counted.work + l.node-index;
}
