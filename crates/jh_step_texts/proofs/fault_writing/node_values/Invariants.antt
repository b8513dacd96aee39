use Rattle.std.proofs.Common.{◌≡◌, map, take}
use Rattle.jh_edn.specs.View.{views}
use Rattle.jh_step_texts.specs.FaultWritten.{edn_of_name}
use Rattle.jh_step_texts.proofs.fault_writing.node_values.Given as goal

abbrev pub invariant-loop-node : goal.invariant-loop-node
invariant-loop-node l = views l.values.items ≡ map (edn_of_name l.nodes) (take l.node-index l.named)
